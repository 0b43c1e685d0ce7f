use Rattle.std.proofs.Common.{ℕ, [], ◌∷◌, ◌++◌, ◌≡◌, ◌∙◌, ap, rules, sym, subst}
use Rattle.std.proofs.lemmas.Option.{IfSome_then}
use Rattle.mc_words.specs.declared.shape.Shape.{Shape}
use Rattle.mc_words.specs.Checks.{shape_of}
use Rattle.mc_theory.specs.Acts.{IsAllowed}
use Rattle.mc_theory.specs.Effects.{words_after}
use Rattle.mc_theory.specs.Lists.{after_all}
use Rattle.mc_plan.specs.Clerks.{shape_of_clerk}
use Rattle.tests.specs.Drivers.{IsTied}
use Rattle.tests.proofs.Driving.{tied_next, closes_tied, words_next}
use Rattle.tests.proofs.clerk.run.Goals as goal
use Rattle.tests.proofs.clerk.run.Goals.{Else-not-make}

-- the next act is allowed
may : (c : Else-not-make) → IsAllowed (shape_of_clerk c.acts.clerk) (after_all (shape_of_clerk c.acts.clerk) c.acts.invariant.s c.acts.invariant.acts) c.in-Some.act
may c = let on = c.acts.invariant in (c.in-Some.ensures.allowed on.call on.s on.acts on.on).0.0

-- the words after it, whatever bit it read
now : (c : Else-not-make) (bit : ℕ) → c.make.new.self.words.items ≡ (after_all (shape_of_clerk c.acts.clerk) c.acts.invariant.s (c.acts.invariant.acts ++ record { act = c.in-Some.act; bit = bit } ∷ [])).words
now c bit =
    let on = c.acts.invariant in
    let sh = shape_of_clerk c.acts.clerk in
    let p = (after_all sh on.s on.acts).phase in
    let made = c.make.ensures.made c.if-not-make.false p (closes_tied sh on.s on.acts c.in-Some.act bit c.acts.driver.key (may c) on.tied) in
    words_next sh on.s on.acts c.in-Some.act bit c.acts.driver.key (may c) on.tied c.acts.driver.words.items c.make.new.self.words.items on.now (subst (λ (x : Shape). c.make.new.self.words.items ≡ words_after 1 x c.acts.driver.words.items p c.in-Some.act) (sym on.shape) made)

pub after-requires : goal.after-requires
after-requires c =
    let on = c.acts.invariant in
    (search rules, (on.call, on.s, on.acts, c.in-Some.act, on.on, sym c.in-Some.ensures.value, c.as_slice.ensures.value ∙ ap (λ v. v.items) c.bit-bit.ensures.words ∙ now (goal.at.after-requires c).Else-not-make c.bit-bit.result))

pub acts-preserved : goal.acts-preserved
acts-preserved c =
    let on = c.acts.invariant in
    let e = (goal.at.acts-preserved c).Else-not-make in
    let bit = c.bit-bit.result in
    let acts = on.acts ++ record { act = c.in-Some.act; bit = bit } ∷ [] in
    let words = ap (λ v. v.items) c.bit-bit.ensures.words ∙ now e bit in
    record {
      call = on.call;
      s = on.s;
      acts = acts;
      on = c.after.ensures.on on.call on.s on.acts c.in-Some.act on.on (sym c.in-Some.ensures.value) (c.as_slice.ensures.value ∙ words);
      now = subst (λ (x : Shape). c.bit-bit.new.self.words.items ≡ (after_all x on.s acts).words) (sym c.after.ensures.shape) words;
      tied = subst (λ (x : Shape). IsTied c.bit-bit.new.self.key (after_all x on.s acts).phase) (sym c.after.ensures.shape)
          (subst (λ (k : ℕ). IsTied k (after_all (shape_of_clerk c.acts.clerk) on.s acts).phase) (sym (c.bit-bit.ensures.key ∙ c.make.ensures.key)) (tied_next (shape_of_clerk c.acts.clerk) on.s on.acts c.in-Some.act bit c.acts.driver.key (may e) on.tied));
      shape = c.after.ensures.shape ∙ on.shape ∙ ap shape_of (sym (c.bit-bit.ensures.shape ∙ c.make.ensures.shape));
    }

pub returns : goal.returns
returns c =
    let on = c.acts.invariant in
    record {
      beside = IfSome_then c.answer.result c.answer.ensures.told (λ a told.
          let end = told on.call on.s on.acts on.on in
          record { s = after_all (shape_of_clerk c.acts.clerk) on.s on.acts; knows = end.1; now = on.now; shape = c.answer.ensures.shape ∙ on.shape });
    }
