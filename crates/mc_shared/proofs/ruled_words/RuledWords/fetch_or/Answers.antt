use Rattle.std.proofs.Common.{ℕ, ap, sym, ◌∙◌, subst}
use Rattle.std.specs.Int.RustNames.{bit_or}
use mathlib.Core.Option.{none}
use Rattle.atomic_table.specs.Table.{step, Allows}
use Rattle.mc_shared.specs.Records.{Opening}
use Rattle.mc_shared.specs.SeatPlays.{says}
use Rattle.mc_shared.specs.TableRule.{Ruled}
use Rattle.mc_shared.specs.declared.layout.Layout.{Layout}
use Rattle.mc_shared.proofs.SeatViews.{all_of}
use Rattle.mc_shared.proofs.ruled_words.RuledWords.fetch_or.Goals as goal

pub fetch_or-requires : goal.fetch_or-requires
fetch_or-requires g c =
    let v = c.self.view_is in
    let laid = c.self.invariant in
    let same = ap (λ (o : Opening). o.layout) v in (
      c.requires.of ∙ sym (ap (λ (o : Opening). o.table) v),
      rw (laid.words ∙ ap all_of same) c.requires.place,
      subst (λ (y : Layout × ℕ). Allows (Ruled y.0) y.1 c.args.seat.now.id c.args.seat.now.me c.args.place (λ n. bit_or n c.args.mask) (says g.P.NamesPlay.play (step y.1 c.args.place c.args.mask 0 none) c.args.seat.now.me)) (λ i. (sym same i, sym laid.slots i)) c.requires.allowed,
    )

pub returns-clause-told : goal.returns-clause-told
returns-clause-told g c = subst (λ (n : ℕ). says g.P.NamesPlay.play (step n c.args.place c.args.mask 0 none) c.args.seat.now.me c.fetch_or.result c.fetch_or.new.seat.me) c.self.invariant.slots c.fetch_or.ensures.2
