use Rattle.std.proofs.Common.{◌∙◌, ◌++◌, ℕ, List, ap, arith, subst, string_bytes}
use Rattle.mc_words.specs.Checks.{shape_of}
use Rattle.mc_words.specs.declared.shape.Shape.{Shape}
use Rattle.mc_theory.specs.Traces.{first_trace}
use Rattle.mc_plan.specs.declared.answer.Why.{Why}
use Rattle.mc_replay.specs.declared.player.Player.{Player}
use Rattle.mc_replay.specs.Texts.{reopened_lines}
use Rattle.mc_replay.specs.Inside.Reopenings.{HasLoaded}
use Rattle.mc_replay.proofs.LoadedWorlds.{moves_to}
use Rattle.mc_replay.proofs.ReaderLines.{player_room}
use Rattle.mc_replay.proofs.reopening.moved.Goals as goal

pub moment-requires : goal.moment-requires
moment-requires g c =
    let width = c.requires.2.knows.books.width in
    let loaded = c.in_ok-left.ensures.loaded (first_trace g.row.V (shape_of c.args.checked.now) c.readers.result) c.in-Ok.ensures.fits in
    (player_room _ _ (omega (arith, width)) (omega (arith, width)), (_, loaded.after, loaded.idle))

pub returns-clause-moved : goal.returns-clause-moved
returns-clause-moved g c = λ b n sizes empty.
    let V = g.row.V in
    let old : Player V = c.args.player.now in
    let first : Player V = c.in-Ok.new in
    let new : Player V = c.load.new.player in
    let sh : Shape = shape_of c.args.checked.now in
    let es = c.in_ok-entries.entries.items in
    let left = c.in_ok-left.left.items in
    let at = c.moment.result in
    let loaded = subst (λ (xs : List (ℕ × List ℕ)). HasLoaded V first new (first_trace V sh c.readers.result) xs left) c.deref.ensures.value (c.in_ok-left.ensures.loaded (first_trace V sh c.readers.result) c.in-Ok.ensures.fits) in
    let told = c.in_ok-tell.ensures.ok ∙ ap (λ (l : List ℕ). l ++ reopened_lines at c.deref-2.result.now c.deref-3.result.now) empty
    ∙ ap (λ (xs : List (ℕ × List ℕ)). reopened_lines at xs c.deref-3.result.now) c.deref-2.ensures.value ∙ ap (λ (l : List (ℕ × Why)). reopened_lines at es l) c.deref-3.ensures.value in
    moves_to V old first new sh c.readers.result at b n es left (string_bytes c.tell.new.text) c.readers.ensures c.in-Ok.ensures.shape sizes c.in_ok-entries.ensures.few c.in_ok-entries.ensures.entries loaded (c.moment.ensures _ loaded.after loaded.idle) told

pub entries-requires : goal.entries-requires
entries-requires g c =
    let width = c.requires.2.knows.books.width in
    (player_room _ _ (omega (arith, width)) (omega (arith, width)), (omega (arith, width), c.requires))

pub readers-requires : goal.readers-requires
readers-requires g c = omega (arith, c.requires.2.knows.books.width)

pub opened-requires : goal.opened-requires
opened-requires g c = omega (arith, c.requires.2.knows.books.width)
