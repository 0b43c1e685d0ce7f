use Rattle.std.proofs.Common.{ℕ, ◌≡◌, ◌*◌, ◌%◌, ◌^◌, min, arith, ap, refl, subst, sym, ◌∙◌}
use Rattle.mc_words.specs.Shapes.{IsPower}
use Rattle.mc_words.proofs.Powers.{is_power-pow}
use Rattle.mc_words.proofs.Sizes.{few_buckets, few_stripes, some_power}
use Rattle.mc_words.proofs.sizing.shape_of_power.Goals as goal

pub returns : goal.returns
returns c =
    let p = c.args.power in
    let few = few_buckets p c.requires.power.0 c.requires.power.1 in
    let is : 1 * 2 ^ p % 4294967296 ≡ 2 ^ p = omega (arith, few.1) in
    let stripes : c.min.result ≡ min (2 ^ p) 8192 = c.min.ensures ∙ ap (λ (n : ℕ). min n 8192) is in
    record {
      shape = record {
        buckets = (omega (arith, few.0, is), omega (arith, few.1, is), subst IsPower (sym is) (is_power-pow p (omega (arith, c.requires.power.1))));
        items = (c.requires.some, omega (arith, c.requires.room, is));
        stripes = (omega (arith, stripes, few.0), omega (arith, stripes), subst IsPower (sym stripes) (few_stripes p c.requires.power.0 c.requires.power.1));
        depth = omega arith;
        tries = (omega arith, omega arith);
        limit = omega arith;
      };
      items = refl;
      room = omega (arith, c.requires.room, is);
      least = λ many. omega (arith, is, c.requires.least (some_power p (omega (arith, is, many))));
      stripes = stripes ∙ ap (λ (n : ℕ). min n 8192) (sym is);
      depth = refl;
      tries = refl;
      limit = refl;
      mix = refl;
    }
