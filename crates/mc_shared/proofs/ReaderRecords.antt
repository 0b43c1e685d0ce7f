-- Fronts of one list, and the records of readers.
use Rattle.std.proofs.Common.{ℕ, ◌≤◌, List, [], ◌∷◌, ◌++◌, length, refl, ap, sym, ◌∙◌, subst, arith, append_assoc, length-append}
use Rattle.std.proofs.lemmas.List.{append-nil}
use Rattle.mc_theory.specs.Lists.{Made}
use Rattle.mc_theory.specs.Readings.{Reading, IsWordOf, AreRead}
use Rattle.mc_theory.specs.States.{State}
use Rattle.mc_theory.specs.declared.access.Access.{Access}
use Rattle.mc_theory.specs.declared.access.Access.TheVariants as access
use Rattle.mc_theory.proofs.Lists.Fronts.{front_all}
use Rattle.mc_theory.proofs.Lists.Growth.{readings_stay, readings_grow}
use Rattle.mc_shared.specs.declared.layout.Layout.{Layout}
use Rattle.mc_shared.specs.Views.{layout_state, IsFrontOf}
use Rattle.mc_shared.specs.TableRule.{IsRecord}
use Rattle.mc_shared.specs.Steps.{reading, mark_at}

pub front_self : (xs : List Made) → IsFrontOf xs xs
front_self xs = ([], sym (append-nil xs))

pub front_none : (xs : List Made) → IsFrontOf [] xs
front_none xs = (xs, refl)

pub front_trans : (xs ys zs : List Made) → IsFrontOf xs ys → IsFrontOf ys zs → IsFrontOf xs zs
front_trans xs ys zs p q = (p.0 ++ q.0, q.1 ∙ (ap (λ (w : List Made). w ++ q.0) p.1 ∙ append_assoc xs p.0 q.0))

pub front_push : (xs ys : List Made) (m : Made) → IsFrontOf xs ys → IsFrontOf xs (ys ++ m ∷ [])
front_push xs ys m p = front_trans xs ys (ys ++ m ∷ []) p (m ∷ [], refl)

pub front_length : (xs ys : List Made) → IsFrontOf xs ys → length xs ≤ length ys
front_length xs ys p = omega (arith, ap length p.1 ∙ length-append xs p.0)

-- ---- records
pub record_none : (l : Layout) (front : List Made) → IsRecord l front []
record_none l front = record { read = tt; rise = omega arith }

-- a record stays one when more acts are made
pub record_longer : (l : Layout) (front longer : List Made) (done : List Reading) → IsFrontOf front longer → IsRecord l front done → IsRecord l longer done
record_longer l front longer done p r = record {
  read = subst (λ (acts : List Made). AreRead l.width l.shape acts done) (sym p.1) (readings_stay l.width l.shape front p.0 done 0 r.rise r.read);
  rise = (readings_grow l.width).later 0 (length front) (length longer) done r.rise (front_length front longer p);
}

-- it may continue with what is read from the front that the reader is at
pub record_read : (l : Layout) (front : List Made) (done : List Reading) (a : Access) (word : ℕ) → IsRecord l front done → IsWordOf l.width l.shape (layout_state l front).words a word → IsRecord l front (done ++ reading a word front ∷ [])
record_read l front done a word r is = record {
  read = (readings_grow l.width).read l.shape front done (reading a word front) r.read (subst (λ (s : State l.width). IsWordOf l.width l.shape s.words a word) (sym (front_all l.width l.shape front (length front) (omega arith))) is, tt);
  rise = (readings_grow l.width).more 0 (length front) done (reading a word front) r.rise (omega arith);
}

-- and with a mark
pub record_mark : (l : Layout) (front : List Made) (done : List Reading) (i : ℕ) → IsRecord l front done → IsRecord l front (done ++ mark_at i front ∷ [])
record_mark l front done i r = record_read l front done (access.Mark i) 0 r tt
