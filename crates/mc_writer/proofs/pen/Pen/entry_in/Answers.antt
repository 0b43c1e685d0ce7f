use Rattle.std.proofs.Common.{◌≡◌, ◌∙◌, ℕ, None, ap, arith, subst, sym}
use Rattle.mc_words.specs.Checks.{shape_of}
use Rattle.mc_words.specs.Keys.{item_in}
use Rattle.mc_words.specs.Places.{slot_number}
use Rattle.mc_words.specs.Standing.{Agrees, Stands}
use Rattle.mc_words.specs.declared.shape.Shape.{Shape}
use Rattle.mc_words.proofs.SlotWords.{item_in-word}
use Rattle.mc_shared.specs.declared.layout.Layout.{Layout}
use Rattle.mc_writer.specs.Inside.Pens.{state_at}
use Rattle.mc_writer.specs.declared.pen.Pen.{Pen}
use Rattle.mc_writer.proofs.pen.Pen.entry_in.Goals as goal

pub entry_at-requires : goal.entry_at-requires
entry_at-requires g c =
    let V = g.row.V in
    let pen = c.args.self.now in
    let sh = pen.cells.now.layout.shape in
    let w = (state_at V pen).words in
    let q = slot_number c.args.place in
    let i = c.requires.stands.0 in
    let width = c.requires.width in
    let sound = c.checked-checked.result.now.sound in
    let shape : sh ≡ shape_of c.checked-checked.result.now = ap (λ (l : Layout). l.shape) c.checked-checked.ensures.layout in
    let there = subst (λ (x : Shape). Stands V x w c.args.key q i) shape c.requires.stands.1 in
    let named : c.item_in.result ≡ i = c.item_in.ensures.item ∙ (ap item_in (c.slot_at-word.ensures.value ∙ there.names.word) ∙ item_in-word there.names.tag i (omega (arith, there.names.in_items, sound.items.1))) in
    let stands = subst (λ (n : ℕ). Stands V sh w c.args.key q n) (sym named) c.requires.stands.1 in (
      omega arith,
      (omega (arith, width.most), (width, subst (λ (x : Pen V). ((h : _) × Agrees V x.cells.now.layout.shape (state_at V x).words None h) × ((n : ℕ) × Stands V x.cells.now.layout.shape (state_at V x).words c.args.key n c.item_in.result)) (sym c.slot_at-word.ensures.kept) (c.requires.agrees, (q, stands)))),
    )
