use Rattle.std.proofs.Common.{eqb-true, eq-eqb, sym, ◌∙◌}
use Rattle.std.proofs.lemmas.Nat.Bits.{shr_and_one}
use Rattle.mc_search.proofs.item_set.is_set.Goals as goal

pub returns : goal.returns
returns c = (
  λ h. sym (shr_and_one c.args.word c.args.bit) ∙ eqb-true _ _ h,
  λ h. eq-eqb _ _ (shr_and_one c.args.word c.args.bit ∙ h),
)
