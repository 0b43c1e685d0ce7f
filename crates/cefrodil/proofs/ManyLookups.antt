-- Lookups of many keys: one more of them, and the last.
use Rattle.std.proofs.Common.{ℕ, ◌≡◌, ◌+◌, ◌*◌, ◌<◌, List, [], ◌∷◌, ◌++◌, length, get_or, take, drop, set, refl, sym, subst, ◌∙◌, ap, arith, add-one, append_assoc, drop-cons, ◌≤◌, inl, inr}
use Rattle.std.proofs.lemmas.List.{take_at, drop_at, drop-drop, drop_all, take_more_set, take-append-drop}
use Rattle.std.proofs.lemmas.Slice.{take-put_mid, drop-put_mid}
use borrow.Rule.Slice.PartMut.{put_mid}
use Rattle.mc_door.specs.Means.{GetTells}
use Rattle.mc_door.specs.Roles.{Role}
use Rattle.mc_door.specs.declared.outcome.Outcome.{Outcome}
use Rattle.cefrodil.specs.Inside.LookedUp.{AreLookedUpTo}
use Rattle.cefrodil.specs.Many.{HasLooked, HaveLooked, answer_of}
use Rattle.cefrodil.specs.declared.many.RawAnswer.{RawAnswer}

-- a lookup with a value of the right width is made
pub looked_one : (V : ℕ) (role role' : Role) (Same : Type 0) (key : ℕ) (old new : List ℕ) (told : Outcome) → length old ≡ V
    → GetTells V role role' Same key old new told → HasLooked V role role' key old new (answer_of told)
looked_one V role role' Same key old new told long (inl told_so) = record { told = told_so.made; is = ap answer_of told_so.is; means = told_so.means }
looked_one V role role' Same key old new told long (inr width) = absurd (width.1 long)

-- the first key's lookup, and then the others
looked_first : (words : ℕ) (h next h' : Role) (key : ℕ) (keys old v new : List ℕ) (answer : RawAnswer) (more : List RawAnswer)
    → length v ≡ words → HasLooked words h next key (take words old) v answer → HaveLooked words next h' keys (drop words old) new more
    → HaveLooked words h h' (key ∷ keys) old (v ++ new) (answer ∷ more)
looked_first words h next h' key keys old v new answer more long first rest = (
  next,
  subst (λ (x : List ℕ). HasLooked words h next key (take words old) x answer) (sym (take_at v new words long)) first,
  subst (λ (x : List ℕ). HaveLooked words next h' keys (drop words old) x more) (sym (drop_at v new words long)) rest,
)

-- one key more
pub one_more : (words : ℕ) (first now next : Role) (keys old values : List ℕ) (answers : List RawAnswer) (n k : ℕ) (key : ℕ) (v values' : List ℕ) (answer : RawAnswer)
    → AreLookedUpTo words first now keys old values answers n → n < length keys → length answers ≡ length keys → n * words + words ≤ length values → get_or keys n 0 ≡ key → k ≡ words
    → HasLooked words now next key (take k (drop (n * words) values)) v answer → length v ≡ words
    → values' ≡ put_mid (n * words) k values v → AreLookedUpTo words first next keys old values' (set answers n answer) (n + 1)
one_more words first now next keys old values answers n k key v values' answer so lt many room is wide looked_k long put_k =
    let looked : HasLooked words now next key (take words (drop (n * words) values)) v answer = subst (λ (m : ℕ). HasLooked words now next key (take m (drop (n * words) values)) v answer) wide looked_k in
    let put : values' ≡ put_mid (n * words) words values v = put_k ∙ ap (λ (m : ℕ). put_mid (n * words) m values v) wide in
    let more_words : (n + 1) * words ≡ n * words + words = omega arith in
    let cut : drop n keys ≡ key ∷ drop (n + 1) keys = rw (add-one, drop-cons keys n 0 lt, is) refl in
    let behind : drop (n * words + words) values' ≡ drop (n * words + words) values = rw put (drop-put_mid (n * words) words values v (n * words + words) (omega arith) (omega (arith, room)) long) in
    let same : drop (n * words + words) values ≡ drop (n * words + words) old =
    sym (drop-drop words (n * words) values) ∙ ap (λ (ws : List ℕ). drop words ws) so.later ∙ drop-drop words (n * words) old in
    let written : take (n * words + words) values' ≡ take (n * words) values ++ v = rw put (take-put_mid (n * words) words values v (n * words + words) (omega (arith, long)) (omega (arith, room))) in
    let told : take (n + 1) (set answers n answer) ≡ take n answers ++ answer ∷ [] = take_more_set answers n answer (omega (arith, lt, many)) in
    record {
      later = rw more_words (behind ∙ same);
      so_far = λ h' new more rest.
          let others : HaveLooked words next h' (drop (n + 1) keys) (drop words (drop (n * words) old)) new more =
          subst (λ (ws : List ℕ). HaveLooked words next h' (drop (n + 1) keys) ws new more) (ap (λ (m : ℕ). drop m old) more_words ∙ sym (drop-drop words (n * words) old)) rest in
          let here : HasLooked words now next key (take words (drop (n * words) old)) v answer = subst (λ (ws : List ℕ). HasLooked words now next key (take words ws) v answer) so.later looked in
          let both : HaveLooked words now h' (drop n keys) (drop (n * words) old) (v ++ new) (answer ∷ more) =
          subst (λ (ks : List ℕ). HaveLooked words now h' ks (drop (n * words) old) (v ++ new) (answer ∷ more)) (sym cut)
          (looked_first words now next h' key (drop (n + 1) keys) (drop (n * words) old) v new answer more long here others) in
          let values_are : take (n * words) values ++ (v ++ new) ≡ take ((n + 1) * words) values' ++ new =
          sym (append_assoc (take (n * words) values) v new) ∙ ap (λ (ws : List ℕ). ws ++ new) (sym written ∙ ap (λ (m : ℕ). take m values') (sym more_words)) in
          let answers_are : take n answers ++ (answer ∷ more) ≡ take (n + 1) (set answers n answer) ++ more =
          sym (append_assoc (take n answers) (answer ∷ []) more) ∙ ap (λ (rs : List RawAnswer). rs ++ more) (sym told) in
          subst (λ (ws : List ℕ). HaveLooked words first h' keys old ws (take (n + 1) (set answers n answer) ++ more)) values_are
          (subst (λ (rs : List RawAnswer). HaveLooked words first h' keys old (take (n * words) values ++ (v ++ new)) rs) answers_are (so.so_far h' (v ++ new) (answer ∷ more) both));
    }

-- and all have been looked up
pub all_looked_up : (words : ℕ) (first now : Role) (keys old values : List ℕ) (answers : List RawAnswer) (n : ℕ)
    → AreLookedUpTo words first now keys old values answers n → n ≡ length keys → length old ≡ length keys * words → length answers ≡ length keys
    → HaveLooked words first now keys old values answers
all_looked_up words first now keys old values answers n so end long many =
    let no_keys : drop n keys ≡ [] = drop_all n keys (omega (arith, end)) in
    let words_end : length old ≡ n * words = long ∙ ap (λ (m : ℕ). m * words) (sym end) in
    let no_words : drop (n * words) old ≡ [] = drop_all (n * words) old (omega (arith, words_end)) in
    let no_answers : drop n answers ≡ [] = drop_all n answers (omega (arith, end, many)) in
    let values_are : take (n * words) values ++ [] ≡ values =
    ap (λ (ws : List ℕ). take (n * words) values ++ ws) (sym (so.later ∙ no_words)) ∙ take-append-drop (n * words) values in
    let answers_are : take n answers ++ [] ≡ answers = ap (λ (rs : List RawAnswer). take n answers ++ rs) (sym no_answers) ∙ take-append-drop n answers in
    let none : HaveLooked words now now (drop n keys) (drop (n * words) old) [] [] =
    subst (λ (ks : List ℕ). HaveLooked words now now ks (drop (n * words) old) [] []) (sym no_keys)
    (subst (λ (ws : List ℕ). HaveLooked words now now [] ws [] []) (sym no_words) (refl, refl)) in
    subst (λ (ws : List ℕ). HaveLooked words first now keys old ws answers) values_are
    (subst (λ (rs : List RawAnswer). HaveLooked words first now keys old (take (n * words) values ++ []) rs) answers_are (so.so_far now [] [] none))
