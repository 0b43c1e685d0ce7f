use Rattle.std.proofs.Common.{ℕ, ◌≡◌, ◌+◌, ◌*◌, ◌<◌, ◌∙◌, List, ◌++◌, [], ◌∷◌, take, length, ap, sym, subst, arith, take_all}
use Rattle.std.proofs.lemmas.List.{length-take-le, take_more}
use Rattle.mc_plan.specs.declared.answer.Why.{Why}
use Rattle.mc_replay.specs.declared.player.Player.{Player}
use Rattle.mc_replay.specs.Inside.Players.{most_steps}
use Rattle.mc_replay.specs.Inside.Reopenings.{HasLoaded}
use Rattle.mc_replay.proofs.LoadedWorlds.{loaded_more, room_to_load}
use Rattle.mc_replay.proofs.ReaderLines.{player_room}
use Rattle.mc_replay.proofs.reopening.load.Goals as goal

pub put_kept-requires : goal.put_kept-requires
put_kept-requires g c =
    let width = c.requires.idle.1.knows.books.width in
    let so = c.loop-index.invariant c.requires.idle.0 c.requires.idle.1 in
    let below : c.loop-index.index < length c.args.entries.now = omega (arith, c.loop-index-test.true) in
    let index = length-take-le c.loop-index.index c.args.entries.now (omega (arith, below)) in
    let room = room_to_load (take c.loop-index.index c.args.entries.now) (omega (arith, index, below, c.requires.few)) in
    (player_room _ _ (omega (arith, width)) (omega (arith, width)), (omega (arith, width), (_, so.after, so.idle, room)))

pub loop-index-preserved : goal.loop-index-preserved
loop-index-preserved g c = λ w idle.
    let V = g.row.V in
    let es = c.args.entries.now in
    let i = c.loop-index.index in
    let old : Player V = c.args.player.now in
    let new : Player V = c.put_kept.new.self in
    let below : i < length es = omega (arith, c.loop-index-test.true) in
    let e = c.index-entries-index.result in
    let more : take (i + 1) es ≡ take i es ++ e ∷ [] = take_more es i e below ∙ ap (λ (x : ℕ × List ℕ). take i es ++ x ∷ []) (sym c.index-entries-index.is) in
    let count : length (take i es) ≡ i = length-take-le i es (omega (arith, below)) in
    let so = c.loop-index.invariant w idle in
    let call = c.in_ok-told.ensures.made (length (take i es) * most_steps) so.after so.idle (room_to_load (take i es) (omega (arith, count, below, c.requires.few))) in
    let all = loaded_more V old c.loop-index.player new w (take i es) i e.0 e.1 c.loop-index.left.items c.in_ok-told.told (sym count) so call in
    subst (λ (xs : List (ℕ × List ℕ)). HasLoaded V old new w xs c.name.new.left.items) (sym more)
    (subst (λ (l : List (ℕ × Why)). HasLoaded V old new w (take i es ++ e ∷ []) l) (sym c.in_ok-name.ensures.ok) all)

pub returns-clause-loaded : goal.returns-clause-loaded
returns-clause-loaded g c = λ w idle.
    let V = g.row.V in
    let old : Player V = c.args.player.now in
    let new : Player V = c.loop-index.player in
    let all : take c.loop-index.index c.args.entries.now ≡ c.args.entries.now = take_all c.loop-index.index c.args.entries.now (omega (arith, c.loop-index-test.false)) in
    subst (λ (xs : List (ℕ × List ℕ)). HasLoaded V old new w xs c.loop-index.left.items) all (c.loop-index.invariant w idle)
