-- Shards that are opened with entries: what they load, entry by entry, and what they hold of it.
use Rattle.std.proofs.Common.{ℕ, zero, suc, ◌≡◌, ◌+◌, ◌<◌, ◌≤◌, ◌∙◌, Bool, true, false, cond, eqb, List, [], ◌∷◌, ◌++◌, length, map, reverse, Some, Result, Ok, Err, All, ap, append-nil, append_assoc, arith, eq-eqb, get_or, inl, inr, ne_eqb, refl, subst, sym, take}
use Rattle.std.specs.List.{filter}
use Rattle.std.specs.Map.{lookup}
use Rattle.std.specs.Option.{option_map}
use Rattle.std.specs.Prelude.{slice_get, slice_set}
use Rattle.std.proofs.Math.Seq.{map-set_same, take-append_seam}
use lib.Seq.{set-get_or}
use Rattle.std.proofs.lemmas.Bool.{cases_eq}
use Rattle.std.proofs.lemmas.List.{get_or-map, get_or-set_other, get_or-set_same, length-map, length-set, map-append, map-set, reverse-append, reverse-reverse}
use Rattle.std.proofs.lemmas.List.Elements.{All-append, All-cons, All-filter, All-get_or, All-head, All-map, All-nil, All-set, All-tail, All-weaker, filter-append}
use Rattle.std.proofs.lemmas.Option.{get_or_from_slice_get, none-some, same_Some, slice_get-map, slice_get_read, slice_get_within}
use Rattle.mc_words.specs.declared.policy.Policy.{Policy}
use Rattle.mc_words.specs.History.{IsLegal, value_held, value_of}
use Rattle.mc_words.specs.Keys.{shard_of}
use Rattle.mc_words.specs.declared.history.Change.{Change}
use Rattle.mc_words.specs.declared.history.Change.TheVariants as change
use Rattle.mc_words.specs.declared.mix.Mix.{Mix}
use Rattle.mc_words.specs.declared.shape.Shape.{Shape}
use Rattle.mc_theory.specs.Lists.{Made, state_of}
use Rattle.mc_plan.specs.Loads.{changes_by, left_by}
use Rattle.mc_plan.specs.WholeCalls.{KeptCall}
use Rattle.mc_plan.specs.declared.answer.Answer.TheVariants as answer
use Rattle.mc_plan.specs.declared.answer.Put.{Put}
use Rattle.mc_plan.specs.declared.answer.Why.{Why}
use Rattle.mc_shared.specs.Records.{Opening, ReaderRecord, WriterRecord, reader_record, writer_record}
use Rattle.mc_shared.specs.Views.{layout_with}
use Rattle.mc_shared.specs.declared.layout.Layout.{Layout}
use Rattle.mc_writer.specs.WriterCalls.{HasCalled}
use Rattle.mc_cache.specs.Plain.{TakesOrNames, history, seen}
use Rattle.mc_cache.proofs.HistoryLaws.{history_laws}
use Rattle.mc_cache.proofs.LoadedEntries.{kept_history}
use Rattle.mc_cache.proofs.PlainCalls.{seen_new}
use Rattle.mc_shards.specs.Own.{own_of}
use Rattle.mc_shards.specs.Loadings.{HaveMet, HoldEntries, ShardsLoad, new_writers, puts_of}
use Rattle.mc_shards.specs.Openings.{GoBy}
use Rattle.mc_shards.specs.Plain.{seens}
use Rattle.mc_shards.specs.Sharded.{ChangesAt}
use Rattle.mc_shards.proofs.Dealt.{changes}
use Rattle.mc_shards.proofs.Entries.{Entry, own_lookup}
use Rattle.mc_shards.proofs.OneMap.{Histories}

-- the value has as many words as those of the shards
abbrev pub IsWide : ℕ → Entry → Type 0
IsWide V e = length e.1 ≡ V

-- ---- one entry more
pub shards_more : (V : ℕ) (sh : Shape) (ws now after : List WriterRecord) (n m : ℕ) (es : List Entry) (k : ℕ) (v : List ℕ) (left : List (ℕ × Why)) (told : Result Put Why) → ShardsLoad V sh ws n es now left → m ≡ n + length es
    → ChangesAt (shard_of sh.mix (length now) k) now after (λ w w'. HasCalled V sh (KeptCall k v) w w' (answer.Kept told)) → ShardsLoad V sh ws n (es ++ (k, v) ∷ []) after (left ++ left_by m told)
shards_more V sh ws now after n m [] k v left told l index c =
    let Called : WriterRecord → WriterRecord → Type 0 = λ w w'. HasCalled V sh (KeptCall k v) w w' (answer.Kept told) in
    let at : m ≡ n = omega (arith, index) in (
      told,
      after,
      [],
      ap (λ (xs : List (ℕ × Why)). xs ++ left_by m told) l.1 ∙ (ap (λ (j : ℕ). left_by j told) at ∙ sym (append-nil (left_by n told))),
      subst (λ (xs : List WriterRecord). ChangesAt (shard_of sh.mix (length xs) k) xs after Called) l.0 c,
      (refl, refl),
    )
shards_more V sh ws now after n m (e ∷ es) k v left told l index c = (
  l.0,
  l.1,
  l.2 ++ left_by m told,
  ap (λ (xs : List (ℕ × Why)). xs ++ left_by m told) l.3 ∙ append_assoc (left_by n l.0) l.2 (left_by m told),
  l.4,
  shards_more V sh l.1 now after (n + 1) m es k v l.2 told l.5 (omega (arith, index)) c,
)

-- ---- the same of histories: the acts are left aside
abbrev HistoriesLoad : (V : ℕ) → Mix → Histories V → ℕ → List Entry → Histories V → List (ℕ × Why) → Type 0
HistoriesLoad V mix hs n [] hs' left = (hs' ≡ hs) × (left ≡ [])
HistoriesLoad V mix hs n (e ∷ es) hs' left =
    (told : Result Put Why) × (next : Histories V) × (others : List (ℕ × Why)) × (left ≡ left_by n told ++ others) ×
    ChangesAt (shard_of mix (length hs) e.0) hs next (λ h h'. h' ≡ h ++ changes_by e.0 e.1 told) × HistoriesLoad V mix next (n + 1) es hs' others

abbrev HasShape : Shape → WriterRecord → Type 0
HasShape sh w = w.of.layout.shape ≡ sh

at_all : {A : Type 0} (P : A → Type 0) (xs : List A) (n : ℕ) (x : A) → All P xs → slice_get xs n ≡ Some x → P x
at_all P [] n x a e = absurd (none-some x e)
at_all P (y ∷ ys) zero x a e = subst P (same_Some y x e) (All-head P y ys a)
at_all P (y ∷ ys) (suc n) x a e = at_all P ys n x (All-tail P y ys a) e

one_history : (V : ℕ) (sh : Shape) (ws next : List WriterRecord) (k : ℕ) (v : List ℕ) (told : Result Put Why) → All (HasShape sh) ws → ChangesAt (shard_of sh.mix (length ws) k) ws next (λ w w'. HasCalled V sh (KeptCall k v) w w' (answer.Kept told))
    → ChangesAt (shard_of sh.mix (length (map (history V) ws)) k) (map (history V) ws) (map (history V) next) (λ h h'. h' ≡ h ++ changes_by k v told)
one_history V sh ws next k v told shapes c =
    let n = shard_of sh.mix (length ws) k in
    let Grows : List (Change V) → List (Change V) → Type 0 = λ h h'. h' ≡ h ++ changes_by k v told in
    let here : ChangesAt n (map (history V) ws) (map (history V) next) Grows = record {
      before = history V c.before;
      after = history V c.after;
      was = slice_get-map (history V) ws n ∙ ap (option_map (history V)) c.was;
      is = ap (map (history V)) c.is ∙ map-set (history V) ws n c.after;
      goes = kept_history V sh c.before c.after k v told (at_all (HasShape sh) ws n c.before shapes c.was) c.goes;
    } in
    subst (λ (m : ℕ). ChangesAt (shard_of sh.mix m k) (map (history V) ws) (map (history V) next) Grows) (sym (length-map ws (history V))) here

-- the writers keep their tables
still_shaped : (V : ℕ) (sh : Shape) (ws next : List WriterRecord) (n k : ℕ) (v : List ℕ) (told : Result Put Why) → All (HasShape sh) ws → ChangesAt n ws next (λ w w'. HasCalled V sh (KeptCall k v) w w' (answer.Kept told)) → All (HasShape sh) next
still_shaped V sh ws next n k v told shapes c =
    subst (All (HasShape sh)) (sym c.is) (All-set (HasShape sh) ws n c.after (ap (λ (o : Opening). o.layout.shape) c.goes.of ∙ at_all (HasShape sh) ws n c.before shapes c.was) shapes)

histories_load : (V : ℕ) (sh : Shape) (ws : List WriterRecord) (n : ℕ) (es : List Entry) (ws' : List WriterRecord) (left : List (ℕ × Why)) → All (HasShape sh) ws → ShardsLoad V sh ws n es ws' left → HistoriesLoad V sh.mix (map (history V) ws) n es (map (history V) ws') left
histories_load V sh ws n [] ws' left shapes l = (ap (map (history V)) l.0, l.1)
histories_load V sh ws n (e ∷ es) ws' left shapes l = (
  l.0,
  map (history V) l.1,
  l.2,
  l.3,
  one_history V sh ws l.1 e.0 e.1 l.0 shapes l.4,
  histories_load V sh l.1 (n + 1) es ws' l.2 (still_shaped V sh ws l.1 (shard_of sh.mix (length ws) e.0) e.0 e.1 l.0 shapes l.4) l.5,
)

-- ---- the entries that are kept
record Grown (V : ℕ) (mix : Mix) (hs : Histories V) (n : ℕ) (es : List Entry) (hs' : Histories V) (left : List (ℕ × Why)) : Type 0 where
  kept : List Entry
  each : TakesOrNames {V = V} n es (puts_of kept) left
  shards : (j : ℕ) → get_or hs' j [] ≡ get_or hs j [] ++ puts_of (own_of mix (length hs) j kept)
  wide : All (IsWide V) kept
  long : length hs' ≡ length hs

-- what one entry makes of each history
next_at : (V : ℕ) (hs next : Histories V) (m : ℕ) (made : List (Change V)) (j : ℕ) → ChangesAt m hs next (λ h h'. h' ≡ h ++ made) → get_or next j [] ≡ get_or hs j [] ++ cond (eqb m j) made []
next_at V hs next m made j c = elim (cases_eq m j) [
  | inl same ↦
      ap (λ (xs : Histories V). get_or xs j []) c.is ∙ ap (λ (i : ℕ). get_or (slice_set hs m c.after) i []) (sym same) ∙ get_or-set_same hs m c.after [] (slice_get_within hs m c.before c.was)
      ∙ c.goes ∙ ap (λ (h : List (Change V)). h ++ made) (sym (get_or_from_slice_get hs m c.before [] c.was)) ∙ ap (λ (i : ℕ). get_or hs i [] ++ made) same
      ∙ ap (λ (b : Bool). get_or hs j [] ++ cond b made []) (sym (eq-eqb m j same))
  | inr other ↦
      ap (λ (xs : Histories V). get_or xs j []) c.is ∙ get_or-set_other hs m j c.after [] (λ e. other (sym e)) ∙ sym (append-nil (get_or hs j []))
      ∙ ap (λ (b : Bool). get_or hs j [] ++ cond b made []) (sym (ne_eqb m j other))
]

own_first : (V : ℕ) (mix : Mix) (many j : ℕ) (e : Entry) (kept : List Entry) → puts_of {V = V} (own_of mix many j (e ∷ kept)) ≡ cond (eqb (shard_of mix many e.0) j) (change.Put e.0 e.1 ∷ []) [] ++ puts_of (own_of mix many j kept)
own_first V mix many j e kept =
    elim (eqb (shard_of mix many e.0) j) as (λ b. puts_of {V = V} (cond b (e ∷ own_of mix many j kept) (own_of mix many j kept)) ≡ cond b (change.Put e.0 e.1 ∷ []) [] ++ puts_of (own_of mix many j kept)) [
      | true ↦ refl
      | false ↦ refl
    ]

same_made : {A : Type 0} (b : Bool) (x : A) → cond b x x ≡ x
same_made true x = refl
same_made false x = refl

same_length : (V : ℕ) (hs next : Histories V) (m : ℕ) (P : List (Change V) → List (Change V) → Type 0) → ChangesAt m hs next P → length next ≡ length hs
same_length V hs next m P c = ap length c.is ∙ length-set hs m c.after

grown_one : (V : ℕ) (mix : Mix) (hs next hs' : Histories V) (n : ℕ) (e : Entry) (es : List Entry) (told : Result Put Why) (left others : List (ℕ × Why)) → left ≡ left_by n told ++ others
    → ChangesAt (shard_of mix (length hs) e.0) hs next (λ h h'. h' ≡ h ++ changes_by e.0 e.1 told) → IsWide V e → Grown V mix next (n + 1) es hs' others → Grown V mix hs n (e ∷ es) hs' left
grown_one V mix hs next hs' n e es (Ok put) left others names c wide g =
    let m = shard_of mix (length hs) e.0 in
    let made : List (Change V) = change.Put e.0 e.1 ∷ [] in
    let long : length next ≡ length hs = same_length V hs next m (λ h h'. h' ≡ h ++ made) c in
    record {
      kept = e ∷ g.kept;
      each = inl (puts_of g.kept, refl, subst (λ (xs : List (ℕ × Why)). TakesOrNames {V = V} (n + 1) es (puts_of g.kept) xs) (sym names) g.each);
      shards = λ j.
          g.shards j ∙ ap (λ (h : List (Change V)). h ++ puts_of (own_of mix (length next) j g.kept)) (next_at V hs next m made j c)
          ∙ append_assoc (get_or hs j []) (cond (eqb m j) made []) (puts_of (own_of mix (length next) j g.kept))
          ∙ ap (λ (i : ℕ). get_or hs j [] ++ (cond (eqb m j) made [] ++ puts_of (own_of mix i j g.kept))) long
          ∙ ap (λ (h : List (Change V)). get_or hs j [] ++ h) (sym (own_first V mix (length hs) j e g.kept));
      wide = All-cons (IsWide V) e g.kept wide g.wide;
      long = g.long ∙ long;
    }
grown_one V mix hs next hs' n e es (Err why) left others names c wide g =
    let m = shard_of mix (length hs) e.0 in
    let long : length next ≡ length hs = same_length V hs next m (λ h h'. h' ≡ h ++ []) c in
    record {
      kept = g.kept;
      each = inr (why, others, names, g.each);
      shards = λ j.
          g.shards j ∙ ap (λ (h : List (Change V)). h ++ puts_of (own_of mix (length next) j g.kept)) (next_at V hs next m [] j c)
          ∙ ap (λ (h : List (Change V)). get_or hs j [] ++ h ++ puts_of (own_of mix (length next) j g.kept)) (same_made {A = List (Change V)} (eqb m j) [])
          ∙ ap (λ (h : List (Change V)). h ++ puts_of (own_of mix (length next) j g.kept)) (append-nil (get_or hs j []))
          ∙ ap (λ (i : ℕ). get_or hs j [] ++ puts_of (own_of mix i j g.kept)) long;
      wide = g.wide;
      long = g.long ∙ long;
    }

grown : (V : ℕ) (mix : Mix) (hs : Histories V) (n : ℕ) (es : List Entry) (hs' : Histories V) (left : List (ℕ × Why)) → All (IsWide V) es → HistoriesLoad V mix hs n es hs' left → Grown V mix hs n es hs' left
grown V mix hs n [] hs' left wide l = record {
  kept = [];
  each = (refl, l.1);
  shards = λ j. ap (λ (xs : Histories V). get_or xs j []) l.0 ∙ sym (append-nil (get_or hs j []));
  wide = wide;
  long = ap length l.0;
}
grown V mix hs n (e ∷ es) hs' left wide l =
    grown_one V mix hs l.1 hs' n e es l.0 left l.2 l.3 l.4 (All-head (IsWide V) e es wide) (grown V mix l.1 (n + 1) es hs' l.2 (All-tail (IsWide V) e es wide) l.5)

-- ---- the value of the last entry of a key
last_first : (e : Entry) (es : List Entry) → reverse (e ∷ es) ≡ reverse es ++ e ∷ []
last_first e es = reverse-append (e ∷ []) es

reverse_own : (p : Entry → Bool) (es : List Entry) → reverse (filter p es) ≡ filter p (reverse es)
reverse_own p [] = refl
reverse_own p (e ∷ es) =
    let own = filter p es in
    let behind = filter p (reverse es) in
    let so : reverse (cond (p e) (e ∷ own) own) ≡ behind ++ cond (p e) (e ∷ []) [] = elim (p e) as (λ b. reverse (cond b (e ∷ own) own) ≡ behind ++ cond b (e ∷ []) []) [
      | true ↦ last_first e own ∙ ap (λ (z : List Entry). z ++ e ∷ []) (reverse_own p es)
      | false ↦ reverse_own p es ∙ sym (append-nil behind)
    ] in
    so ∙ (sym (filter-append p (reverse es) (e ∷ [])) ∙ ap (filter p) (sym (last_first e es)))

all_reverse : (V : ℕ) (es : List Entry) → All (IsWide V) es → All (IsWide V) (reverse es)
all_reverse V [] a = a
all_reverse V (e ∷ es) a =
    subst (All (IsWide V)) (sym (last_first e es))
    (All-append (IsWide V) (reverse es) (e ∷ []) (all_reverse V es (All-tail (IsWide V) e es a)) (All-cons (IsWide V) e [] (All-head (IsWide V) e es a) (All-nil (IsWide V))))

-- a put's value, without the stamp after it
value_put : (V : ℕ) (v : List ℕ) (n : ℕ) → length v ≡ V → option_map (value_of V) (Some (v ++ n ∷ [])) ≡ Some v
value_put V v n wide = ap (λ (xs : List ℕ). Some xs) (ap (λ (m : ℕ). take m (v ++ n ∷ [])) (sym wide) ∙ take-append_seam v (n ∷ []))

puts_one_more : (V : ℕ) (es : List Entry) (e : Entry) → puts_of {V = V} (reverse (e ∷ es)) ≡ puts_of (reverse es) ++ change.Put e.0 e.1 ∷ []
puts_one_more V es e = ap puts_of (last_first e es) ∙ map-append (λ (d : Entry). change.Put d.0 d.1) (reverse es) (e ∷ [])

held_last : (V k : ℕ) (es : List Entry) → All (IsWide V) es → value_held {V = V} (puts_of (reverse es)) k ≡ lookup (λ q. eqb k q) es
held_last V k [] a = ap (option_map (value_of V)) ((history_laws V).maps.empty k)
held_last V k (e ∷ es) a =
    let h : List (Change V) = puts_of (reverse es) in
    let start : value_held {V = V} (puts_of (reverse (e ∷ es))) k ≡ value_held (h ++ change.Put e.0 e.1 ∷ []) k = ap (λ (x : List (Change V)). value_held x k) (puts_one_more V es e) in
    elim (cases_eq k e.0) [
      | inl same ↦
          start ∙ ap (λ (q : ℕ). value_held (h ++ change.Put e.0 e.1 ∷ []) q) same ∙ ap (option_map (value_of V)) ((history_laws V).maps.put h e.0 e.1) ∙ value_put V e.1 (length h + 1) (All-head (IsWide V) e es a)
          ∙ ap (λ (b : Bool). cond b (Some e.1) (lookup (λ q. eqb k q) es)) (sym (eq-eqb k e.0 same))
      | inr other ↦
          start ∙ ap (option_map (value_of V)) ((history_laws V).maps.others h (change.Put e.0 e.1) k other) ∙ held_last V k es (All-tail (IsWide V) e es a)
          ∙ ap (λ (b : Bool). cond b (Some e.1) (lookup (λ q. eqb k q) es)) (sym (ne_eqb k e.0 other))
    ]

-- what a shard holds of its key, from its own entries
held_own : (V : ℕ) (mix : Mix) (many n k : ℕ) (kept : List Entry) → shard_of mix many k ≡ n → All (IsWide V) kept → value_held {V = V} (puts_of (own_of mix many n kept)) k ≡ lookup (λ q. eqb k q) (reverse kept)
held_own V mix many n k kept is wide =
    let own = own_of mix many n kept in
    ap (λ (xs : List Entry). value_held {V = V} (puts_of xs) k) (sym (reverse-reverse own))
    ∙ held_last V k (reverse own) (all_reverse V own (All-filter (λ (e : Entry). eqb (shard_of mix many e.0) n) (IsWide V) kept wide))
    ∙ ap (λ (xs : List Entry). lookup (λ q. eqb k q) xs) (reverse_own (λ (e : Entry). eqb (shard_of mix many e.0) n) kept)
    ∙ own_lookup mix many n k (reverse kept) is

-- ---- new writers
new_shaped : (sh : Shape) (tables : List Opening) → All (λ o. o.layout.shape ≡ sh) tables → All (HasShape sh) (new_writers tables)
new_shaped sh tables a = All-map (HasShape sh) (λ (o : Opening). writer_record o [] []) tables a

new_history : (V : ℕ) (o : Opening) → history V (writer_record o [] []) ≡ []
unfolding history seen
new_history V o = seen_new V o (reader_record o 0 [] []) refl refl

no_history : (V : ℕ) (tables : List Opening) (j : ℕ) → get_or (map (history V) (new_writers tables)) j [] ≡ []
no_history V [] j = refl
no_history V (o ∷ tables) zero = new_history V o
no_history V (o ∷ tables) (suc j) = no_history V tables j

legal_all : (V : ℕ) (sh : Shape) (ws : List WriterRecord) → All (HasShape sh) ws → All (λ w. IsLegal w.of.layout.shape.items (history V w)) ws → All (IsLegal sh.items) (map (history V) ws)
legal_all V sh [] shapes legal = All-nil (IsLegal sh.items)
legal_all V sh (w ∷ ws) shapes legal =
    let Legal : WriterRecord → Type 0 = λ x. IsLegal x.of.layout.shape.items (history V x) in
    All-cons (IsLegal sh.items) (history V w) (map (history V) ws) (subst (λ (z : Shape). IsLegal z.items (history V w)) (All-head (HasShape sh) w ws shapes) (All-head Legal w ws legal))
    (legal_all V sh ws (All-tail (HasShape sh) w ws shapes) (All-tail Legal w ws legal))

-- what new shards hold that have loaded the entries
pub held_all : (V : ℕ) (sh : Shape) (tables : List Opening) (es : List Entry) (ws : List WriterRecord) (left : List (ℕ × Why)) → All (λ o. o.layout.shape ≡ sh) tables → All (HasShape sh) ws → All (IsWide V) es
    → All (λ w. IsLegal w.of.layout.shape.items (history V w)) ws → ShardsLoad V sh (new_writers tables) 0 es ws left → HoldEntries V sh es (map (history V) ws) left
held_all V sh tables es ws left shapes shaped wide legal l =
    let hs = map (history V) ws in
    let start = map (history V) (new_writers tables) in
    let g = grown V sh.mix start 0 es hs left wide (histories_load V sh (new_writers tables) 0 es ws left (new_shaped sh tables shapes) l) in
    let own : (j : ℕ) → get_or hs j [] ≡ puts_of (own_of sh.mix (length hs) j g.kept) = λ j.
    g.shards j ∙ ap (λ (h : List (Change V)). h ++ puts_of (own_of sh.mix (length start) j g.kept)) (no_history V tables j) ∙ ap (λ (m : ℕ). puts_of (own_of sh.mix m j g.kept)) (sym g.long) in
    record {
      kept = g.kept;
      each = g.each;
      shards = λ j within. own j;
      values = λ k. ap (λ (h : List (Change V)). value_held h k) (own (shard_of sh.mix (length hs) k)) ∙ held_own V sh.mix (length hs) (shard_of sh.mix (length hs) k) k g.kept refl g.wide;
      legal = legal_all V sh ws shaped legal;
    }

-- ---- what a pass has seen that met the writers
abbrev rest_of : {A : Type 0} → List A → List A
rest_of [] = []
rest_of (x ∷ xs) = xs

heads : {A : Type 0} (x y : A) (xs ys : List A) → x ∷ xs ≡ y ∷ ys → x ≡ y
heads x y xs ys e = ap (λ zs. get_or zs 0 x) e

seen_one : (V : ℕ) (r : ReaderRecord) (w : WriterRecord) → r.of ≡ w.of → r.front ≡ w.acts → seen V r ≡ history V w
unfolding history seen
seen_one V r w of front = ap (λ (p : Opening × List Made). (state_of V p.0.layout.shape p.1).history) (λ i. (of i, front i))

pub seen_all : (V : ℕ) (rs : List ReaderRecord) (ws : List WriterRecord) → map (λ r. r.of) rs ≡ map (λ w. w.of) ws → HaveMet ws rs → seens V rs ≡ map (history V) ws
seen_all V [] [] of met = refl
seen_all V [] (w ∷ ws) of met = absurd cc
seen_all V (r ∷ rs) [] of met = absurd cc
seen_all V (r ∷ rs) (w ∷ ws) of met =
    let reader_of : ReaderRecord → Opening = λ x. x.of in
    let writer_of : WriterRecord → Opening = λ x. x.of in
    let front_of : ReaderRecord → List Made = λ x. x.front in
    let acts_of : WriterRecord → List Made = λ x. x.acts in
    let first : seen V r ≡ history V w = seen_one V r w (heads r.of w.of (map reader_of rs) (map writer_of ws) of) (heads r.front w.acts (map front_of rs) (map acts_of ws) met) in
    let rest : seens V rs ≡ map (history V) ws = seen_all V rs ws (ap rest_of of) (ap rest_of met) in
    λ i. first i ∷ rest i

-- ---- steps of the code
-- a put at the writer of the key's shard
pub put_here : (V : ℕ) (sh : Shape) (caches : List Opening) (ws : List WriterRecord) (n m : ℕ) (w w' : WriterRecord) (cache : Opening) (k : ℕ) (v : List ℕ) (told : Result Put Why) → map (λ x. x.of) ws ≡ caches → n < length caches → n ≡ m → w ≡ get_or ws n w
    → cache ≡ get_or caches n cache → All (λ o. o.layout.shape ≡ sh) caches → HasCalled V cache.layout.shape (KeptCall k v) w w' (answer.Kept told) → ChangesAt m ws (slice_set ws n w') (λ x x'. HasCalled V sh (KeptCall k v) x x' (answer.Kept told))
put_here V sh caches ws n m w w' cache k v told of within here at is shapes called =
    let Called : Shape → WriterRecord → WriterRecord → Type 0 = λ z x x'. HasCalled V z (KeptCall k v) x x' (answer.Kept told) in
    let shaped : cache.layout.shape ≡ sh = ap (λ (o : Opening). o.layout.shape) is ∙ All-get_or (λ (o : Opening). o.layout.shape ≡ sh) caches n cache within shapes in
    let there : slice_get ws n ≡ Some w = slice_get_read ws (length ws) n w refl (omega (arith, within, sym (length-map ws (λ (x : WriterRecord). x.of)) ∙ ap length of)) at in
    subst (λ (j : ℕ). ChangesAt j ws (slice_set ws n w') (Called sh)) here (changes n ws w w' (Called sh) there (subst (λ (z : Shape). Called z w w') shaped called))

-- the writers stay those of their tables
pub still_writers : (caches : List Opening) (ws : List WriterRecord) (n : ℕ) (w w' : WriterRecord) → map (λ x. x.of) ws ≡ caches → w ≡ get_or ws n w → w'.of ≡ w.of → map (λ x. x.of) (slice_set ws n w') ≡ caches
still_writers caches ws n w w' of at same =
    let of_writer : WriterRecord → Opening = λ x. x.of in
    map-set_same of_writer ws n w' w (same ∙ ap of_writer at) ∙ of

-- and so do the readers
pub still_readers : (caches : List Opening) (rs : List ReaderRecord) (n : ℕ) (r r' : ReaderRecord) → map (λ x. x.of) rs ≡ caches → r ≡ get_or rs n r → r'.of ≡ r.of → map (λ x. x.of) (slice_set rs n r') ≡ caches
still_readers caches rs n r r' of at same =
    let of_reader : ReaderRecord → Opening = λ x. x.of in
    map-set_same of_reader rs n r' r (same ∙ ap of_reader at) ∙ of

-- a writer that stays as it is
pub same_writers : (ws : List WriterRecord) (n : ℕ) (w w' : WriterRecord) → w ≡ get_or ws n w → w' ≡ w → slice_set ws n w' ≡ ws
same_writers ws n w w' at same = ap (λ (x : WriterRecord). slice_set ws n x) (same ∙ at) ∙ set-get_or ws n w

-- one reader more has met its writer
pub met_more : (rs : List ReaderRecord) (ws : List WriterRecord) (n : ℕ) (r' : ReaderRecord) (w : WriterRecord) → n < length rs → n < length ws → w ≡ get_or ws n w → r'.front ≡ w.acts
    → ((k : ℕ) → k < n → get_or (map (λ r. r.front) rs) k [] ≡ get_or (map (λ w. w.acts) ws) k []) → (k : ℕ) → k < n + 1 → get_or (map (λ r. r.front) (slice_set rs n r')) k [] ≡ get_or (map (λ w. w.acts) ws) k []
met_more rs ws n r' w within too at front was k less =
    let front_of : ReaderRecord → List Made = λ x. x.front in
    let acts_of : WriterRecord → List Made = λ x. x.acts in
    let start : get_or (map front_of (slice_set rs n r')) k [] ≡ get_or (slice_set (map front_of rs) n r'.front) k [] = ap (λ (xs : List (List Made)). get_or xs k []) (map-set front_of rs n r') in
    elim (cases_eq k n) [
      | inl same ↦
          start ∙ ap (λ (j : ℕ). get_or (slice_set (map front_of rs) n r'.front) j []) same ∙ get_or-set_same (map front_of rs) n r'.front [] (omega (arith, within, length-map rs front_of)) ∙ front
          ∙ ap acts_of at ∙ sym (get_or-map acts_of ws n w [] too) ∙ ap (λ (j : ℕ). get_or (map acts_of ws) j []) (sym same)
      | inr other ↦ start ∙ get_or-set_other (map front_of rs) n k r'.front [] other ∙ was k (omega (arith, less, other))
    ]

same_lists : {A : Type 0} (xs ys : List (List A)) → length xs ≡ length ys → ((k : ℕ) → k < length xs → get_or xs k [] ≡ get_or ys k []) → xs ≡ ys
same_lists [] [] long same = refl
same_lists [] (y ∷ ys) long same = absurd (omega (arith, long))
same_lists (x ∷ xs) [] long same = absurd (omega (arith, long))
same_lists {A} (x ∷ xs) (y ∷ ys) long same =
    let first : x ≡ y = same 0 (omega arith) in
    let rest : xs ≡ ys = same_lists xs ys (omega (arith, long)) (λ k l. same (suc k) (omega (arith, l))) in
    λ i. first i ∷ rest i

-- all have
pub met_all : (caches : List Opening) (rs : List ReaderRecord) (ws : List WriterRecord) (n : ℕ) → map (λ r. r.of) rs ≡ caches → map (λ w. w.of) ws ≡ caches → length caches ≤ n → ((k : ℕ) → k < n → get_or (map (λ r. r.front) rs) k [] ≡ get_or (map (λ w. w.acts) ws) k []) → HaveMet ws rs
met_all caches rs ws n readers writers past met =
    let front_of : ReaderRecord → List Made = λ x. x.front in
    let acts_of : WriterRecord → List Made = λ x. x.acts in
    let long : length (map front_of rs) ≡ length caches = length-map rs front_of ∙ (sym (length-map rs (λ (r : ReaderRecord). r.of)) ∙ ap length readers) in
    let as_long : length (map acts_of ws) ≡ length caches = length-map ws acts_of ∙ (sym (length-map ws (λ (w : WriterRecord). w.of)) ∙ ap length writers) in
    same_lists (map front_of rs) (map acts_of ws) (long ∙ sym as_long) (λ k l. met k (omega (arith, l, past, long)))

-- what all passes have seen
pub all_seen : (V : ℕ) (caches : List Opening) (ws : List WriterRecord) (ps : List (List ReaderRecord)) → map (λ w. w.of) ws ≡ caches → All (λ rs. map (λ r. r.of) rs ≡ caches) ps → All (HaveMet ws) ps → All (λ rs. seens V rs ≡ map (history V) ws) ps
all_seen V caches ws [] of are met = All-nil (λ rs. seens V rs ≡ map (history V) ws)
all_seen V caches ws (p ∷ ps) of are met =
    let Are : List ReaderRecord → Type 0 = λ rs. map (λ r. r.of) rs ≡ caches in
    All-cons (λ rs. seens V rs ≡ map (history V) ws) p ps (seen_all V p ws (All-head Are p ps are ∙ sym of) (All-head (HaveMet ws) p ps met))
    (all_seen V caches ws ps of (All-tail Are p ps are) (All-tail (HaveMet ws) p ps met))

-- the writers of tables of the shape
pub shaped_writers : (sh : Shape) (ws : List WriterRecord) → All (λ o. o.layout.shape ≡ sh) (map (λ w. w.of) ws) → All (HasShape sh) ws
shaped_writers sh [] a = All-nil (HasShape sh)
shaped_writers sh (w ∷ ws) a =
    let Shaped : Opening → Type 0 = λ o. o.layout.shape ≡ sh in
    let of_writer : WriterRecord → Opening = λ x. x.of in
    All-cons (HasShape sh) w ws (All-head Shaped w.of (map of_writer ws) a) (shaped_writers sh ws (All-tail Shaped w.of (map of_writer ws) a))

pub shaped_tables : (V : ℕ) (policy : Policy) (sh : Shape) (tables : List Opening) → All (λ o. o.layout ≡ layout_with V policy sh) tables → All (λ o. o.layout.shape ≡ sh) tables
shaped_tables V policy sh tables a = All-weaker (λ (o : Opening). o.layout ≡ layout_with V policy sh) (λ (o : Opening). o.layout.shape ≡ sh) (λ o is. ap (λ (l : Layout). l.shape) is) tables a

pub tables_go_by : (V : ℕ) (policy : Policy) (sh : Shape) (tables : List Opening) → All (λ o. o.layout ≡ layout_with V policy sh) tables → GoBy policy tables
tables_go_by V policy sh tables a = All-weaker (λ (o : Opening). o.layout ≡ layout_with V policy sh) (λ (o : Opening). o.layout.policy ≡ policy) (λ o is. ap (λ (l : Layout). l.policy) is) tables a

pub tables_of_new : (tables : List Opening) → map (λ w. w.of) (new_writers tables) ≡ tables
tables_of_new [] = refl
tables_of_new (o ∷ tables) = ap (λ (xs : List Opening). o ∷ xs) (tables_of_new tables)
