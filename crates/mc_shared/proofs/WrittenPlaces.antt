-- What an allowed act names, where it writes, and what it leaves of the words.
use Rattle.std.proofs.Common.{ℕ, ◌≡◌, ◌⊎◌, ◌^◌, ◌<◌, ◌≤◌, List, [], ◌∷◌, ◌++◌, get_or, set, Option, Some, None, refl, ap, sym, ◌∙◌, subst, inl, inr, ⊎_elim, arith, get_or-set_other}
use Rattle.mc_words.specs.Places.{word_count, all_words}
use Rattle.mc_theory.specs.Effects.{after_act}
use Rattle.mc_theory.specs.Lists.{Made}
use Rattle.mc_theory.specs.States.{State}
use Rattle.mc_theory.specs.Writes.{write_of, with_write, FitsIn, NamesIn}
use Rattle.mc_theory.specs.declared.act.Act.{Act}
use Rattle.mc_theory.specs.declared.act.Act.TheVariants.{Open, Slot, Item, Moment, Close, Hand, Mark}
use Rattle.mc_theory.proofs.Lists.Bounds.{state_length}
use Rattle.mc_theory.proofs.Lists.Fronts.{state_push}
use Rattle.mc_theory.proofs.Lists.WrittenWords.{writes_its_word, acts_name_the_table}
use Rattle.mc_shared.specs.declared.layout.Layout.{Layout}
use Rattle.mc_shared.specs.Views.{layout_state, with_bit}
use Rattle.mc_shared.specs.Inside.Steps.{WritesAt}
use Rattle.mc_shared.specs.Inside.Seats.{MayMake}
use Rattle.mc_shared.proofs.PackedBits.{recency_below}

-- an allowed act names slots, items and words of the table
pub act_names_in : (l : Layout) (acts : List Made) (a : Act) → MayMake l acts a → NamesIn l.width l.shape a
act_names_in l acts a may =
    acts_name_the_table l.width l.shape acts a may.shape may.lawful may.allowed

-- ---- where it writes
-- a word before the recency words, which write_of names, or a recency word
abbrev pub Lies : Layout → List Made → Act → ℕ → ℕ → Type 0
Lies l acts a n x =
    ((n < word_count l.width l.shape) × (x < 2 ^ 64) × (write_of l.width l.shape (layout_state l acts).words (layout_state l acts).phase a ≡ Some (n, x)))
    ⊎ ((word_count l.width l.shape ≤ n) × (n < all_words l.width l.shape) × (write_of l.width l.shape (layout_state l acts).words (layout_state l acts).phase a ≡ None))

-- the word that write_of names is before the recency words
pub write_low : (l : Layout) (acts : List Made) (a : Act) (n x : ℕ) → MayMake l acts a → write_of l.width l.shape (layout_state l acts).words (layout_state l acts).phase a ≡ Some (n, x) → n < word_count l.width l.shape
write_low l acts a n x may e =
    let both = writes_its_word l.width l.shape acts (with_bit a 0) may.shape may.lawful may.allowed may.few in
    let fits : FitsIn (layout_state l acts).words (Some (n, x)) = subst (FitsIn (layout_state l acts).words) e both.1 in
    let long = state_length l.width l.shape acts in
    omega (arith, fits.0)

-- and a word below 2^64
pub write_small : (l : Layout) (acts : List Made) (a : Act) (n x : ℕ) → MayMake l acts a → write_of l.width l.shape (layout_state l acts).words (layout_state l acts).phase a ≡ Some (n, x) → x < 2 ^ 64
write_small l acts a n x may e =
    let both = writes_its_word l.width l.shape acts (with_bit a 0) may.shape may.lawful may.allowed may.few in
    let fits : FitsIn (layout_state l acts).words (Some (n, x)) = subst (FitsIn (layout_state l acts).words) e both.1 in
    fits.1

-- so it is in the first part of the table
lies_before : (l : Layout) (acts : List Made) (a : Act) (n x : ℕ) → MayMake l acts a → write_of l.width l.shape (layout_state l acts).words (layout_state l acts).phase a ≡ Some (n, x) → Lies l acts a n x
lies_before l acts a n x may e =
    let both = writes_its_word l.width l.shape acts (with_bit a 0) may.shape may.lawful may.allowed may.few in
    let fits : FitsIn (layout_state l acts).words (Some (n, x)) = subst (FitsIn (layout_state l acts).words) e both.1 in
    let long = state_length l.width l.shape acts in
    inl (omega arith, fits.1, e)

-- each allowed act writes in one of the two parts
pub lies : (l : Layout) (acts : List Made) (a : Act) (n x : ℕ) → MayMake l acts a → WritesAt l acts a n x → Lies l acts a n x
lies l acts (Open k d) n x may w = lies_before l acts (Open k d) n x may w
lies l acts (Slot p y) n x may w = lies_before l acts (Slot p y) n x may w
lies l acts (Item i j y) n x may w = lies_before l acts (Item i j y) n x may w
lies l acts Moment n x may w = lies_before l acts Moment n x may w
lies l acts Close n x may w = lies_before l acts Close n x may w
lies l acts (Hand i) n x may w = let below = recency_below l.width l.shape i (act_names_in l acts (Hand i) may) in inr (omega (arith, w.0), omega (arith, w.0, below), refl)
lies l acts (Mark i) n x may w = let below = recency_below l.width l.shape i (act_names_in l acts (Mark i) may) in inr (omega (arith, w.0), omega (arith, w.0, below), refl)

-- and so within the table
pub place_below : (l : Layout) (acts : List Made) (a : Act) (n x : ℕ) → MayMake l acts a → WritesAt l acts a n x → n < all_words l.width l.shape
place_below l acts a n x may w = ⊎_elim (λ b. omega (arith, b.0)) (λ b. b.1) (lies l acts a n x may w)

-- the words after the act, before the recency words, are the old ones with that write
pub word_written : (l : Layout) (acts : List Made) (m : Made) (n x k : ℕ) → MayMake l acts m.act → WritesAt l acts m.act n x → k < word_count l.width l.shape → get_or (layout_state l (acts ++ m ∷ [])).words k 0 ≡ get_or (set (layout_state l acts).words n x) k 0
word_written l acts m n x k may w below =
    let V = l.width in let sh = l.shape in let s = layout_state l acts in
    let next : layout_state l (acts ++ m ∷ []) ≡ after_act sh s m.act m.bit = state_push V sh acts m in
    let both = writes_its_word V sh acts m may.shape may.lawful may.allowed may.few in
    let is : get_or (layout_state l (acts ++ m ∷ [])).words k 0 ≡ get_or (with_write s.words (write_of V sh s.words s.phase m.act)) k 0 =
    ap (λ (z : State V). get_or z.words k 0) next ∙ ap (λ (z : List ℕ). get_or z k 0) both.0 in
    is ∙ ⊎_elim
    (λ b. ap (λ (o : Option (ℕ × ℕ)). get_or (with_write s.words o) k 0) b.2)
    (λ b. ap (λ (o : Option (ℕ × ℕ)). get_or (with_write s.words o) k 0) b.2 ∙ sym (get_or-set_other s.words n k x 0 (λ e. omega (arith, b.0))))
    (lies l acts m.act n x may w)
