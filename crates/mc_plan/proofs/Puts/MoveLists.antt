-- Moves as a list, and their acts.
use Rattle.std.proofs.Common.{ℕ, ◌≡◌, ◌+◌, ◌∙◌, List, [], ◌∷◌, ◌++◌, ap, refl, sym, append_assoc}
use Rattle.mc_words.specs.declared.policy.Policy.{Policy}
use Rattle.mc_words.specs.declared.place.Place.{Place}
use Rattle.mc_words.specs.declared.shape.Shape.{Shape}
use Rattle.mc_theory.specs.declared.act.Act.{Act}
use Rattle.mc_search.specs.Paths.{first_place}
use Rattle.mc_plan.specs.declared.decision.Move.{Move}
use Rattle.mc_plan.specs.declared.decision.Replacement.{Replacement}
use Rattle.mc_plan.specs.declared.decision.Storing.{Storing}
use Rattle.mc_plan.specs.Decisions.{acts_of_moves, moves_of, new_marks, replacement_acts, storing_acts}
use Rattle.mc_plan.specs.Plans.{evict_acts, fill_acts, move_acts, moves_acts}
use Rattle.mc_plan.specs.Puts.{put_acts}
use Rattle.mc_plan.specs.Replacing.{replace_acts}

-- one move more
pub moves_push : (ms : List Move) (m : Move) → acts_of_moves (ms ++ m ∷ []) ≡ acts_of_moves ms ++ move_acts m.key m.word m.from m.to
moves_push [] m = refl
moves_push (x ∷ ms) m = ap (λ (acts : List Act). move_acts x.key x.word x.from x.to ++ acts) (moves_push ms m)

-- the acts that put a new key
pub stored_acts : (policy : Policy) (V : ℕ) (sh : Shape) (w : List ℕ) (k : ℕ) (v : List ℕ) (ps : List Place) (hole : Place) (listed : List Move) (storing : Storing) → acts_of_moves (moves_of listed storing.moves) ≡ moves_acts V sh w ps hole → storing.place ≡ first_place ps hole
    → put_acts V sh w k v storing.at storing.item ps hole ++ new_marks policy storing.item ≡ storing_acts policy listed sh k v storing
stored_acts policy V sh w k v ps hole listed storing moves place =
    append_assoc (moves_acts V sh w ps hole) (fill_acts sh k v storing.at storing.item (first_place ps hole)) (new_marks policy storing.item)
    ∙ ap (λ (p : Place). moves_acts V sh w ps hole ++ (fill_acts sh k v storing.at storing.item p ++ new_marks policy storing.item)) (sym place)
    ∙ ap (λ (acts : List Act). acts ++ (fill_acts sh k v storing.at storing.item storing.place ++ new_marks policy storing.item)) (sym moves)

-- and those that take another key's item for it
pub replaced_acts : (policy : Policy) (V : ℕ) (sh : Shape) (w : List ℕ) (k : ℕ) (v : List ℕ) (ps : List Place) (hole : Place) (listed : List Move) (r : Replacement) → acts_of_moves (moves_of listed r.storing.moves) ≡ moves_acts V sh w ps hole → r.storing.place ≡ first_place ps hole
    → replace_acts V sh w k v r.storing.at r.storing.item r.victim.key r.victim.place ps hole ++ new_marks policy r.storing.item ≡ replacement_acts policy listed sh k v r
replaced_acts policy V sh w k v ps hole listed r moves place =
    ap (λ (acts : List Act). evict_acts r.victim.key r.victim.place ++ acts) (stored_acts policy V sh w k v ps hole listed r.storing moves place)
