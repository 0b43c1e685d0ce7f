-- Entries that are put into a new cache.
use Rattle.std.proofs.Common.{ℕ, ◌≡◌, ◌+◌, ◌∙◌, List, [], ◌∷◌, ◌++◌, length, Result, Ok, Err, inl, inr, ap, arith, append_assoc, refl, sym, subst}
use Rattle.mc_shared.specs.declared.layout.Layout.{Layout}
use Rattle.mc_shared.specs.Views.{layout_with}
use Rattle.mc_words.specs.declared.policy.Policy.{Policy}
use Rattle.mc_words.specs.declared.history.Change.{Change}
use Rattle.mc_words.specs.declared.shape.Shape.{Shape}
use Rattle.mc_theory.specs.Lists.{Made, after_all, state_of}
use Rattle.mc_theory.proofs.Lists.Fronts.{state_append, state_none}
use Rattle.mc_theory.specs.States.{State, opening}
use Rattle.mc_plan.specs.WholeCalls.{AnsweredBy, KeptCall}
use Rattle.mc_plan.specs.declared.answer.Answer.TheVariants as answer
use Rattle.mc_plan.specs.declared.answer.Put.{Put}
use Rattle.mc_plan.specs.declared.answer.Why.{Why}
use Rattle.mc_plan.specs.Loads.{LoadsBy, changes_by, left_by}
use Rattle.mc_plan.proofs.Calls.Loading.{loads_history, loads_more}
use Rattle.mc_shared.specs.Records.{Opening, WriterRecord}
use Rattle.mc_writer.specs.WriterCalls.{HasCalled}
use Rattle.mc_cache.proofs.PlainCalls.{kept_means}
use Rattle.mc_cache.specs.Plain.{TakesOrNames, history}

-- ---- the entries that were put so far
abbrev pub HasLoaded : (V : ℕ) → Shape → WriterRecord → WriterRecord → List (ℕ × List ℕ) → List (ℕ × Why) → Type 0
HasLoaded V sh start now es left = (made : List Made) × (changes : List (Change V)) × (now.acts ≡ start.acts ++ made) × LoadsBy V sh start.of.layout.policy (state_of V sh start.acts) 0 es made changes left

-- one more
pub loaded_more : (V : ℕ) (sh : Shape) (start before after : WriterRecord) (es : List (ℕ × List ℕ)) (n k : ℕ) (v : List ℕ) (left : List (ℕ × Why)) (told : Result Put Why) → n ≡ length es → before.of ≡ start.of → HasLoaded V sh start before es left → HasCalled V sh (KeptCall k v) before after (answer.Kept told)
    → HasLoaded V sh start after (es ++ (k, v) ∷ []) (left ++ left_by n told)
loaded_more V sh start before after es n k v left told index same so called =
    let policy = start.of.layout.policy in
    let s = state_of V sh start.acts in
    let now : state_of V sh before.acts ≡ after_all sh s so.0 = ap (state_of V sh) so.2 ∙ state_append V sh start.acts so.0 in
    let here : AnsweredBy V sh policy (KeptCall k v) (state_of V sh before.acts) called.made (answer.Kept told) = subst (λ (o : Opening). AnsweredBy V sh o.layout.policy (KeptCall k v) (state_of V sh before.acts) called.made (answer.Kept told)) same called.answered in
    let a : AnsweredBy V sh policy (KeptCall k v) (after_all sh s so.0) called.made (answer.Kept told) = subst (λ (t : State V). AnsweredBy V sh policy (KeptCall k v) t called.made (answer.Kept told)) now here in (
      so.0 ++ called.made,
      so.1 ++ changes_by k v told,
      called.acts ∙ ap (λ (xs : List Made). xs ++ called.made) so.2 ∙ append_assoc start.acts so.0 called.made,
      loads_more V policy sh s 0 n es k v so.0 called.made so.1 left told so.3 (omega (arith, index)) a,
    )

-- one put makes its change of the history
pub kept_history : (V : ℕ) (sh : Shape) (before after : WriterRecord) (k : ℕ) (v : List ℕ) (told : Result Put Why) → before.of.layout.shape ≡ sh → HasCalled V sh (KeptCall k v) before after (answer.Kept told) → history V after ≡ history V before ++ changes_by k v told
kept_history V sh before after k v told shape called =
    kept_means V before.of before.of before before refl refl refl after k v told (subst (λ (z : Shape). HasCalled V z (KeptCall k v) before after (answer.Kept told)) (sym shape) called)

-- a new table has no history
opening_new : (V : ℕ) (sh : Shape) → (opening V sh).history ≡ []
unfolding opening
opening_new V sh = refl

-- all that a new cache loads is its history
pub loaded_new : (V : ℕ) (policy : Policy) (sh : Shape) (o : Opening) (new now : WriterRecord) (es : List (ℕ × List ℕ)) (left : List (ℕ × Why)) → o.layout ≡ layout_with V policy sh → new.of ≡ o → new.acts ≡ [] → now.of ≡ new.of → HasLoaded V o.layout.shape new now es left → LoadsBy V sh policy (opening V sh) 0 es now.acts (history V now) left
unfolding history
loaded_new V policy sh o new now es left layout of none still so =
    let shape : o.layout.shape ≡ sh = ap (λ (l : Layout). l.shape) layout in
    let same : new.of.layout.policy ≡ policy = ap (λ (p : Opening). p.layout.policy) of ∙ ap (λ (l : Layout). l.policy) layout in
    let start : state_of V o.layout.shape new.acts ≡ opening V sh = ap (λ (xs : List Made). state_of V o.layout.shape xs) none ∙ (state_none V o.layout.shape ∙ ap (opening V) shape) in
    let acts : now.acts ≡ so.0 = so.2 ∙ ap (λ (xs : List Made). xs ++ so.0) none in
    let begun : LoadsBy V o.layout.shape policy (state_of V o.layout.shape new.acts) 0 es so.0 so.1 left = subst (λ (x : Policy). LoadsBy V o.layout.shape x (state_of V o.layout.shape new.acts) 0 es so.0 so.1 left) same so.3 in
    let loads : LoadsBy V sh policy (opening V sh) 0 es so.0 so.1 left = subst (λ (p : Shape × State V). LoadsBy V p.0 policy p.1 0 es so.0 so.1 left) (λ i. (shape i, start i)) begun in
    let here : now.of.layout.shape ≡ sh = ap (λ (p : Opening). p.layout.shape) (still ∙ of) ∙ shape in
    let made : (state_of V sh so.0).history ≡ so.1 = ap (λ (s : State V). s.history) (state_append V sh [] so.0 ∙ ap (λ (s : State V). after_all sh s so.0) (state_none V sh)) ∙ (loads_history V policy sh (opening V sh) 0 es so.0 so.1 left loads ∙ ap (λ (h : List (Change V)). h ++ so.1) (opening_new V sh)) in
    let is : (state_of V now.of.layout.shape now.acts).history ≡ so.1 = ap (λ (z : Shape). (state_of V z now.acts).history) here ∙ (ap (λ (xs : List Made). (state_of V sh xs).history) acts ∙ made) in
    subst (λ (p : List Made × List (Change V)). LoadsBy V sh policy (opening V sh) 0 es p.0 p.1 left) (λ i. (sym acts i, sym is i)) loads

-- ---- what is said of them without the table

-- one entry and those after it
one_plain : {V : ℕ} (n k : ℕ) (v : List ℕ) (es : List (ℕ × List ℕ)) (told : Result Put Why) (changes later : List (Change V)) (left others : List (ℕ × Why)) → changes ≡ changes_by k v told ++ later → left ≡ left_by n told ++ others → TakesOrNames (n + 1) es later others → TakesOrNames n ((k, v) ∷ es) changes left
one_plain n k v es (Ok put) changes later left others is names rest = inl (later, is, subst (λ (xs : List (ℕ × Why)). TakesOrNames (n + 1) es later xs) (sym names) rest)
one_plain {V} n k v es (Err reason) changes later left others is names rest = inr (reason, others, names, subst (λ (xs : List (Change V)). TakesOrNames (n + 1) es xs others) (sym is) rest)

-- each entry is put, or named
pub loads_plain : (V : ℕ) (policy : Policy) (sh : Shape) (s : State V) (n : ℕ) (es : List (ℕ × List ℕ)) (acts : List Made) (changes : List (Change V)) (left : List (ℕ × Why)) → LoadsBy V sh policy s n es acts changes left → TakesOrNames n es changes left
loads_plain V policy sh s n [] acts changes left l = (l.1, l.2)
loads_plain V policy sh s n (e ∷ es) acts changes left l = one_plain n e.0 e.1 es l.0 changes l.3 left l.4 l.6 l.7 (loads_plain V policy sh (after_all sh s l.1) (n + 1) es l.2 l.3 l.4 l.9)
