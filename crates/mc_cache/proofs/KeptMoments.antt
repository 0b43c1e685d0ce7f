-- The moment that a writer keeps, after its calls.
use Rattle.std.proofs.Common.{ℕ, ◌≡◌, [], ◌∷◌, ◌++◌, List, ap, length, refl, sym, ◌∙◌}
use Rattle.mc_words.specs.Places.{moment}
use Rattle.mc_words.specs.declared.history.Reply.{Reply}
use Rattle.mc_words.specs.declared.history.Reply.TheVariants.{Found, Absent, Busy}
use Rattle.mc_words.specs.declared.shape.Shape.{Shape}
use Rattle.mc_theory.specs.Lists.{Made, state_of}
use Rattle.mc_theory.specs.States.{State}
use Rattle.mc_theory.specs.declared.act.Act.TheVariants.{Mark}
use Rattle.mc_theory.proofs.Lists.Fronts.{state_push}
use Rattle.mc_shared.specs.Records.{Opening, WriterRecord}
use Rattle.mc_shared.specs.Views.{with_bit}
use Rattle.mc_plan.specs.declared.books.Books.{Books}
use Rattle.mc_writer.specs.WriterCalls.{HasGot, IsRested, RepliesNow}
use Rattle.mc_writer.proofs.Rests.{agrees_now}
use Rattle.mc_cache.specs.Inside.KeptMoments.{KeepsMoment}
use Rattle.mc_cache.specs.Plain.{history}
use Rattle.mc_cache.proofs.PlainCalls.{moment_tells}

abbrev moment_after : (V : ℕ) → Shape → List Made → ℕ
moment_after V sh acts = moment (state_of V sh acts).words

-- a mark leaves it
mark_leaves : (V : ℕ) (sh : Shape) (acts : List Made) (i : ℕ) → moment_after V sh (acts ++ with_bit (Mark i) 0 ∷ []) ≡ moment_after V sh acts
mark_leaves V sh acts i = ap (λ (s : State V). moment s.words) (state_push V sh acts (with_bit (Mark i) 0))

reply_leaves : (V : ℕ) (sh there : Shape) (k : ℕ) (acts acts' : List Made) (reply : Reply V) → RepliesNow V sh k (state_of V sh acts) (λ i. with_bit (Mark i) 0) acts acts' reply → moment_after V there acts' ≡ moment_after V there acts
reply_leaves V sh there k acts acts' (Found v at since) r = ap (λ (ms : List Made). moment_after V there ms) r.2.3 ∙ mark_leaves V there acts r.2.1
reply_leaves V sh there k acts acts' (Absent at) r = ap (λ (ms : List Made). moment_after V there ms) r.2
reply_leaves V sh there k acts acts' Busy r = absurd r

pub got_keeps : (V : ℕ) (sh : Shape) (k : ℕ) (before after : WriterRecord) (reply : Reply V) (n : ℕ) → HasGot V sh k before after reply → KeepsMoment V before n → KeepsMoment V after n
got_keeps V sh k before after reply n got keeps =
    keeps ∙ (sym (reply_leaves V sh before.of.layout.shape k before.acts after.acts reply got.replies) ∙ ap (λ (o : Opening). moment_after V o.layout.shape after.acts) (sym got.of))

-- the length of the history is the moment of a writer that rests
pub counts_keeps : (V : ℕ) (books : Books) (after : WriterRecord) (n : ℕ) → IsRested V books after → n ≡ length (history V after) → KeepsMoment V after n
unfolding history
counts_keeps V books after n rested is = is ∙ sym (agrees_now V after.of books after refl rested).at_moment

-- a call that leaves the history leaves the moment
pub same_keeps : (V : ℕ) (books books' : Books) (self seat after : WriterRecord) (n : ℕ) → seat ≡ self → IsRested V books seat → KeepsMoment V seat n → IsRested V books' after → history V after ≡ history V self → KeepsMoment V after n
same_keeps V books books' self seat after n same rested keeps rested' leaves = counts_keeps V books' after n rested' (moment_tells V books self seat n same rested keeps ∙ sym (ap length leaves))
