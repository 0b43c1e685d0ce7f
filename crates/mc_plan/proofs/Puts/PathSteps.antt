-- One move of a path after another.
use Rattle.std.proofs.Common.{ℕ, zero, suc, ◌≡◌, ◌+◌, ◌*◌, ◌^◌, ◌<◌, inl, inr, List, [], ◌∷◌, ◌++◌, refl, sym, subst, drop, get_or, length, arith, append_assoc, add-one, drop-cons}
use Rattle.mc_words.specs.declared.place.Place.{Place}
use Rattle.mc_words.specs.declared.shape.Shape.{Shape}
use Rattle.mc_words.specs.Chains.{IsOccupied, Leads, IsChain, beyond}
use Rattle.mc_words.specs.Keys.{NamesSome}
use Rattle.mc_words.specs.Places.{slot_number, slot}
use Rattle.mc_theory.specs.declared.act.Act.{Act}
use Rattle.mc_plan.specs.Moves.{AreTaken, AreKeys}
use Rattle.mc_search.specs.Paths.{IsCut, first_place}
use Rattle.mc_plan.specs.Plans.{key_named, move_acts, moves_acts}
use Rattle.mc_search.specs.Readable.{IsFilled}

-- the places that lead to a hole are occupied
leads_taken : (sh : Shape) (w : List ℕ) (b : ℕ) (ps : List Place) (hole : Place) → Leads sh w b ps hole → AreTaken sh w ps
leads_taken sh w b [] hole leads = tt
leads_taken sh w b (p ∷ ps) hole leads = (leads.0, leads_taken sh w (beyond sh w p) ps hole leads.2)

-- the places of a chain are occupied
pub chain_taken : (sh : Shape) (w : List ℕ) (k : ℕ) (ps : List Place) (hole : Place) → IsChain sh w k ps hole → AreTaken sh w ps
chain_taken sh w k ps hole chain = elim chain.leads [ inl a ↦ leads_taken sh w _ ps hole a | inr a ↦ leads_taken sh w _ ps hole a ]

-- of occupied places the first ones are
first_taken : (sh : Shape) (w : List ℕ) (ps qs : List Place) → AreTaken sh w (ps ++ qs) → AreTaken sh w ps
first_taken sh w [] qs taken = tt
first_taken sh w (p ∷ ps) qs taken = (taken.0, first_taken sh w ps qs taken.1)

-- those that a cut keeps are occupied if all were
pub cut_taken : (sh : Shape) (w : List ℕ) (victim : Place) (ps : List Place) (hole : Place) (kept : List Place) (end : Place) → IsCut victim ps hole kept end → AreTaken sh w ps → AreTaken sh w kept
cut_taken sh w victim ps hole kept end (inl cut) taken = first_taken sh w kept (victim ∷ cut.0) (subst (AreTaken sh w) cut.1 taken)
cut_taken sh w victim ps hole kept end (inr cut) taken = subst (AreTaken sh w) (sym cut.1) taken

-- each of the places is occupied if they all are
pub occupied_at : (sh : Shape) (w : List ℕ) (ps : List Place) (n : ℕ) (d : Place) → AreTaken sh w ps → n < length ps → IsOccupied sh w (get_or ps n d)
occupied_at sh w [] n d taken l = absurd (omega arith)
occupied_at sh w (p ∷ ps) zero d taken l = taken.0
occupied_at sh w (p ∷ ps) (suc n) d taken l = occupied_at sh w ps n d taken.1 (omega arith)

-- the word of an occupied place names an item
pub named_at : (sh : Shape) (w : List ℕ) (p : Place) → IsFilled sh w → IsOccupied sh w p → NamesSome sh (slot sh w (slot_number p))
named_at sh w p filled taken =
    let below : slot_number p < 4 * sh.buckets = omega (arith, taken.0.in_table, taken.0.in_bucket) in
    elim (filled (slot_number p) below) [ inl e ↦ absurd (taken.1 e) | inr n ↦ (n.1.tag, n.0, (n.1.is_tag, n.1.in_items, n.1.word)) ]

-- the path from a place on
pub path_from : (ps : List Place) (m n : ℕ) (d : Place) → n ≡ m + 1 → m < length ps → drop m ps ≡ get_or ps m d ∷ drop n ps
path_from ps m n d e l = rw (e, add-one) (drop-cons ps m d l)

-- what was made of a path from one of its places on
pub record IsMadeFrom (V : ℕ) (sh : Shape) (w : List ℕ) (before acts : List Act) (ps : List Place) (hole to : Place) : Type 0 where
  pub items : acts ≡ before ++ moves_acts V sh w ps hole
  pub end : to ≡ first_place ps hole
  pub keys : AreKeys V sh w ps

-- one place more
pub made_more : (V : ℕ) (sh : Shape) (w : List ℕ) (before acts more : List Act) (ps : List Place) (hole to p : Place) (k word : ℕ) → IsMadeFrom V sh w before acts ps hole to
    → word ≡ slot sh w (slot_number p) → k ≡ key_named V sh w p → k < 2 ^ 64 → more ≡ acts ++ move_acts k word p to → IsMadeFrom V sh w before more (p ∷ ps) hole p
made_more V sh w before acts more ps hole to p k word made is key small e = record {
  items = rw (e, made.items, made.end, is, key) (append_assoc before (moves_acts V sh w ps hole) (move_acts (key_named V sh w p) (slot sh w (slot_number p)) p (first_place ps hole)));
  end = refl;
  keys = (rw (← key) small, made.keys);
}
