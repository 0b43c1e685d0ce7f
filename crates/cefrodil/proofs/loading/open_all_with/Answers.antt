use Rattle.std.proofs.Common.{◌≡◌, ◌<◌, ◌∙◌, List, arith, inr, length, refl, subst, sym, ℕ}
use Rattle.std.specs.List.{All, EachIndex, slice_index}
use Rattle.mc_plan.specs.declared.answer.Why.{Why}
use Rattle.mc_door.specs.NewPasses.{passes_on, shards_on}
use Rattle.cefrodil.specs.Loading.{entry_status}
use Rattle.cefrodil.proofs.Loaded.{named_of_shards}
use Rattle.cefrodil.proofs.Filling.{are_loaded, refused_memory}
use Rattle.cefrodil.proofs.loading.open_all_with.Goals as goal

pub tell_left-requires : goal.tell_left-requires
tell_left-requires c =
    let rest = c.in-Ok-opened.opened.0 in let left = c.in-Ok-opened.opened.1 in let count : ℕ = length c.args.statuses.now in
    let named = named_of_shards c.args.words count (shards_on rest) c.args.entries.now left.items (passes_on rest) c.in-Ok-opened.ensures.loaded in
    let told = subst (λ (ls : List (ℕ × Why)). All (λ l. l.0 < count) ls) (sym c.as_slice.ensures.value) named in
    record { done = c.tell_done.ensures; named = λ k d lt. omega (arith, c.tell_done.auto.statuses, told k d lt) }

pub returns-then-not-fill-clause-refused : goal.returns-then-not-fill-clause-refused
returns-then-not-fill-clause-refused c =
    let asked = c.in-Ok.ensures in let rest = c.in-Ok-opened.ensures.rest in
    λ _. inr (
      (λ _. asked.1),
      refused_memory c.args.shape.now c.args.shards c.args.words (length c.args.handles.now) c.count_of.result c.in-Ok.asked.1 asked.0 asked.2 asked.3 asked.5
          rest.2 rest.3 rest.4 c.count_of.ensures.right,
    )

pub returns-clause-opened : goal.returns-clause-opened
returns-clause-opened c =
    let made = c.in-Ok-opened.ensures in let rest = c.in-Ok-opened.opened.0 in let left = c.in-Ok-opened.opened.1 in let statuses : List ℕ = c.tell_left.new.statuses in
    λ _. are_loaded c.args.shape.now c.args.shards c.args.words (length c.args.statuses.now) c.args.entries.now statuses c.fill.new.handles c.in-Ok.asked.1 rest left.items
    c.in-Ok.ensures.5 made.refused.0 made.refused.1 (c.in-Ok.asked.0, c.in-Ok.ensures.4, made.policy) made.rest.0 (c.tell_left.auto.statuses ∙ c.tell_done.auto.statuses) c.in-Ok.ensures.1 made.loaded (c.if-not-fill.ensures.filled refl)
    (subst (λ (ls : List (ℕ × Why)). EachIndex statuses (λ i. slice_index statuses i ≡ entry_status ls i)) c.as_slice.ensures.value c.tell_left.ensures)
