use Rattle.std.proofs.Common.{rules, ℕ, ◌≡◌, ◌+◌, ◌*◌, ◌%◌, ◌^◌, IsTrue, ap, subst, sym, ◌∙◌}
use Rattle.std.specs.Prelude.{replicate}
use Rattle.mc_plan.specs.WholeCalls.{Call}
use Rattle.mc_plan.specs.WholeCalls.Call.{PutCall, RemoveCall}
use Rattle.mc_load.specs.Draws.{drawn_key, drawn_word}
use Rattle.mc_load.specs.Turns.{IsTryOf, stream_of}
use Rattle.mc_load.specs.Inside.Handles.{place_of}
use Rattle.mc_load.specs.Inside.Tries.{tries_of}
use Rattle.mc_load.proofs.Histories.{put_drawn, removal_drawn}
use Rattle.mc_load.proofs.turn_thread.TurnThread.make_call.Goals as goal

pub returns-then-is_removal-clause-made : goal.returns-then-is_removal-clause-made
returns-then-is_removal-clause-made g c load n place drawn =
    let V = g.row.V in
    let w = c.args.self.now.number in
    let who = stream_of w in
    let key = c.key-key.ensures.key load who (2 * n) drawn in
    let first = c.key-key.ensures.drawn load who (2 * n) drawn in
    let yes : IsTrue c.is_removal-is_removal.result = search rules in
    let removal : drawn_word load who (2 * n + 1) % 8 ≡ 0 = (c.is_removal-is_removal.ensures.removal load who (2 * n + 1) first).0 yes in
    subst (λ (call : Call). IsTryOf V (place_of c.args.self.now.handle) call (tries_of c.args.self.now) (tries_of c.try_remove.new.self)) (ap RemoveCall key ∙ sym (removal_drawn V load who n (n + 1 + w * 2 ^ 32) removal)) c.try_remove.ensures.made

pub returns-else-is_removal-clause-made : goal.returns-else-is_removal-clause-made
returns-else-is_removal-clause-made g c load n place drawn =
    let V = g.row.V in
    let w = c.args.self.now.number in
    let who = stream_of w in
    let key = c.key-key.ensures.key load who (2 * n) drawn in
    let first = c.key-key.ensures.drawn load who (2 * n) drawn in
    let none : drawn_word load who (2 * n + 1) % 8 ≡ 0 → ⊥ = λ h. let yes : IsTrue c.is_removal-is_removal.result = (c.is_removal-is_removal.ensures.removal load who (2 * n + 1) first).1 h in search rules in
    let word : c.word_of-word.result ≡ n + 1 + w * 2 ^ 32 = c.word_of-word.ensures ∙ ap (λ (k : ℕ). k + w * 2 ^ 32) place in
    subst (λ (call : Call). IsTryOf V (place_of c.args.self.now.handle) call (tries_of c.args.self.now) (tries_of c.try_put.new.self))
    (ap (λ (k : ℕ). PutCall k (replicate V c.word_of-word.result)) key ∙ (ap (λ (v : ℕ). PutCall (drawn_key load who (2 * n)) (replicate V v)) word ∙ sym (put_drawn V load who n (n + 1 + w * 2 ^ 32) none))) c.try_put.ensures.made
