use Rattle.std.proofs.Common.{◌≡◌, ◌∙◌, ◌+◌, ℕ, arith, ap, length, sym, subst, [], ◌∷◌}
use Rattle.mc_words.specs.Keys.{slot_word}
use Rattle.mc_words.specs.Places.{item_place}
use Rattle.mc_words.specs.declared.shape.Shape.{Shape}
use Rattle.mc_theory.specs.declared.act.Act.TheVariants as act
use Rattle.mc_theory.specs.declared.act.Deed.TheVariants as deed
use Rattle.mc_plan.specs.Plans.{payload_acts, value_acts}
use Rattle.mc_shared.specs.Running.{IsRunning}
use Rattle.mc_writer.specs.Inside.Pens.{IsDue, HasMade}
use Rattle.mc_writer.proofs.Pens.{first_due, made_then, rest_due, same_then, shape_kept}
use Rattle.mc_writer.proofs.RunningDeeds.{inner_payload, still_running}
use Rattle.mc_writer.proofs.pen.Pen.fill.Goals as goal
use Rattle.mc_writer.proofs.pen.Pen.fill.Goals.{After-write_item_from, After-write_item_from-2}
use Rattle.mc_writer.proofs.pen.Pen.fill.Given.{Over}

pub open_deed-running-requires : goal.open_deed-running-requires
open_deed-running-requires g c = (omega arith, (first_due g.row.V (act.Open c.args.key deed.Fill ∷ []) _ _ c.requires.due, c.requires.parts))

pub write_item_from-requires : goal.write_item_from-requires
write_item_from-requires g c =
    let d1 = rest_due _ c.open_deed-running.ensures.made c.requires.due in
    (omega arith, (c.requires.width, ((subst (λ (sh : Shape). c.items_start-items.result ≡ item_place g.row.V sh 0 0) (sym (shape_kept c.open_deed-running.ensures.made.same)) c.items_start-items.ensures.value, c.items_start-items.ensures.small), first_due g.row.V (act.Item c.args.i 0 c.args.key ∷ []) _ _ d1)))

-- the value and its stamp are due
due_payload : (g : Over) (c : After-write_item_from g) → IsDue g.row.V (payload_acts c.args.i c.args.value.now c.args.at) c.write_item_from.new.self
due_payload g c =
    let d1 = rest_due _ c.open_deed-running.ensures.made c.requires.due in
    let d2 = rest_due _ c.write_item_from.ensures.made d1 in
    first_due g.row.V (payload_acts c.args.i c.args.value.now c.args.at) _ _ d2

pub write_value-requires : goal.write_value-requires
write_value-requires g c =
    let V = g.row.V in
    let v = c.args.value.now in
    let same = same_then c.open_deed-running.ensures.made.same c.write_item_from.ensures.made.same in
    let due = first_due V (value_acts c.args.i 1 v) (act.Item c.args.i (length v + 1) c.args.at ∷ []) _ (due_payload g (goal.at.write_value-requires g c).After-write_item_from) in
    (omega arith, (omega (arith, c.requires.width), (c.requires.width, ((subst (λ (sh : Shape). c.items_start-items.result ≡ item_place V sh 0 0) (sym (shape_kept same)) c.items_start-items.ensures.value, c.items_start-items.ensures.small), due))))

pub write_item_from-requires-2 : goal.write_item_from-requires-2
write_item_from-requires-2 g c =
    let V = g.row.V in
    let v = c.args.value.now in
    let many : length v ≡ V = c.told-value in
    let same = same_then (same_then c.open_deed-running.ensures.made.same c.write_item_from.ensures.made.same) c.write_value.ensures.made.same in
    let due = rest_due (act.Item c.args.i (length v + 1) c.args.at ∷ []) c.write_value.ensures.made (due_payload g (goal.at.write_item_from-requires-2 g c).After-write_item_from) in
    let next = subst (λ (n : ℕ). IsDue V (act.Item c.args.i (n + 1) c.args.at ∷ []) c.write_value.new.self) many due in
    (omega arith, (c.requires.width, ((subst (λ (sh : Shape). c.items_start-items.result ≡ item_place V sh 0 0) (sym (shape_kept same)) c.items_start-items.ensures.value, c.items_start-items.ensures.small), next)))

-- they are written
payload_made : (g : Over) (c : After-write_item_from-2 g) → HasMade g.row.V (payload_acts c.args.i c.args.value.now c.args.at) c.write_item_from.new.self c.write_item_from-2.new.self
payload_made g c =
    let V = g.row.V in
    let many : length c.args.value.now ≡ V = c.told-value in
    made_then c.write_value.ensures.made (subst (λ (n : ℕ). HasMade V (act.Item c.args.i (n + 1) c.args.at ∷ []) c.write_value.new.self c.write_item_from-2.new.self) (sym many) c.write_item_from-2.ensures.made)

-- what is due after the value
due_after_value : (g : Over) (c : After-write_item_from-2 g) → IsDue g.row.V (act.Slot c.args.place c.slot_word-named.result ∷ act.Moment ∷ act.Close ∷ []) c.write_item_from-2.new.self
due_after_value g c =
    let d1 = rest_due _ c.open_deed-running.ensures.made c.requires.due in
    let d2 = rest_due _ c.write_item_from.ensures.made d1 in
    let d3 = rest_due _ (payload_made g c) d2 in
    let named = c.slot_word-named.ensures ∙ ap (λ (t : ℕ). slot_word t c.args.i) c.requires.parts.tag in
    subst (λ (x : ℕ). IsDue g.row.V (act.Slot c.args.place x ∷ act.Moment ∷ act.Close ∷ []) c.write_item_from-2.new.self) (sym named) d3

pub write_slot-requires : goal.write_slot-requires
write_slot-requires g c = (omega arith, first_due g.row.V (act.Slot c.args.place c.slot_word-named.result ∷ []) _ _ (due_after_value g (goal.at.write_slot-requires g c).After-write_item_from-2))

pub count_moment-requires : goal.count_moment-requires
count_moment-requires g c =
    let d4 = rest_due _ c.write_slot.ensures.made (due_after_value g (goal.at.count_moment-requires g c).After-write_item_from-2) in
    (omega arith, first_due g.row.V (act.Moment ∷ []) _ _ d4)

-- the deed still runs, with the version that it was opened with
running_after_value : (g : Over) (c : After-write_item_from-2 g) → IsRunning g.row.V c.write_item_from-2.new.self.seat.now c.open_deed-running.result
running_after_value g c =
    let d1 = rest_due _ c.open_deed-running.ensures.made c.requires.due in
    let d2 = rest_due _ c.write_item_from.ensures.made d1 in
    let r1 = still_running _ _ (tt, tt) d1 c.write_item_from.ensures.made c.open_deed-running.ensures.running in
    still_running _ _ (inner_payload c.args.i c.args.value.now c.args.at) d2 (payload_made g c) r1

pub close_deed-requires : goal.close_deed-requires
close_deed-requires g c =
    let after = (goal.at.close_deed-requires g c).After-write_item_from-2 in
    let d3 = due_after_value g after in
    let d4 = rest_due (act.Moment ∷ act.Close ∷ []) c.write_slot.ensures.made d3 in
    let d5 = rest_due (act.Close ∷ []) c.count_moment.ensures.made d4 in
    let r4 = still_running (act.Moment ∷ act.Close ∷ []) _ (tt, tt) d3 c.write_slot.ensures.made (running_after_value g after) in
    let r5 = still_running (act.Close ∷ []) _ (tt, tt) d4 c.count_moment.ensures.made r4 in
    (omega arith, (first_due g.row.V (act.Close ∷ []) _ _ d5, r5))

pub returns : goal.returns
returns g c =
    let named = c.slot_word-named.ensures ∙ ap (λ (t : ℕ). slot_word t c.args.i) c.requires.parts.tag in
    let m4 = subst (λ (x : ℕ). HasMade g.row.V (act.Slot c.args.place x ∷ []) c.write_item_from-2.new.self c.write_slot.new.self) named c.write_slot.ensures.made in
    record { made = made_then c.open_deed-running.ensures.made (made_then c.write_item_from.ensures.made (made_then (payload_made g (goal.at.returns g c).After-write_item_from-2) (made_then m4 (made_then c.count_moment.ensures.made c.close_deed.ensures.made)))) }
