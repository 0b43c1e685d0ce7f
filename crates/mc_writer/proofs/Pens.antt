-- What is due to a pen, and what it has made, act after act.
use Rattle.std.proofs.Common.{ℕ, ◌≡◌, ◌∙◌, List, [], ◌∷◌, ◌++◌, ap, append_assoc, append-nil, refl, sym, subst}
use Rattle.mc_words.specs.declared.shape.Shape.{Shape}
use Rattle.mc_theory.specs.Lists.{Made}
use Rattle.mc_theory.specs.declared.act.Act.{Act}
use Rattle.mc_plan.specs.Due.{AreDue}
use Rattle.mc_plan.specs.Making.{as_made}
use Rattle.mc_shared.specs.Views.{with_bit}
use Rattle.mc_shared.proofs.GrownNotes.{grow_self, grow_trans}
use Rattle.mc_writer.specs.Inside.Pens.{IsDue, IsSamePen, HasMade, HasMadeUpTo}
use Rattle.mc_writer.specs.declared.pen.Pen.{Pen}
use Rattle.mc_writer.proofs.Due.{due_made}

-- acts one list after the other
made_append : (xs ys : List Act) → as_made (xs ++ ys) ≡ as_made xs ++ as_made ys
made_append [] ys = refl
made_append (x ∷ xs) ys = ap (λ (ms : List Made). with_bit x 0 ∷ ms) (made_append xs ys)

-- once the first acts that are due are made, the others are due
still_due : (V : ℕ) (sh : Shape) (all acts : List Made) (xs due : List Act) → AreDue V sh all acts (xs ++ due) → AreDue V sh all (acts ++ as_made xs) due
still_due V sh all acts [] due d = subst (λ (ms : List Made). AreDue V sh all ms due) (sym (append-nil acts)) d
still_due V sh all acts (x ∷ xs) due d = subst (λ (ms : List Made). AreDue V sh all ms due) (append_assoc acts (with_bit x 0 ∷ []) (as_made xs)) (still_due V sh all (acts ++ with_bit x 0 ∷ []) xs due (due_made V sh all acts x (xs ++ due) d))

-- ---- what is due
pub first_due : (V : ℕ) (xs ys : List Act) (p : Pen V) → IsDue V (xs ++ ys) p → IsDue V xs p
first_due V xs ys p d = record { all = d.all; later = ys ++ d.later; due = subst (λ (zs : List Act). AreDue V p.cells.now.layout.shape d.all p.seat.now.acts zs) (append_assoc xs ys d.later) d.due }

pub rest_due : {V : ℕ} {xs : List Act} {p q : Pen V} (ys : List Act) → HasMade V xs p q → IsDue V (xs ++ ys) p → IsDue V ys q
rest_due {V} {xs} {p} {q} ys m d =
    let here = subst (λ (zs : List Act). AreDue V p.cells.now.layout.shape d.all p.seat.now.acts zs) (append_assoc xs ys d.later) d.due in
    let after = still_due V p.cells.now.layout.shape d.all p.seat.now.acts xs (ys ++ d.later) here in
    let there = subst (λ (ms : List Made). AreDue V p.cells.now.layout.shape d.all ms (ys ++ d.later)) (sym m.acts) after in
    record { all = d.all; later = d.later; due = subst (λ (sh : Shape). AreDue V sh d.all q.seat.now.acts (ys ++ d.later)) (sym (ap (λ c. c.now.layout.shape) m.same.cells)) there }

-- a whole plan
pub plan_is_due : (V : ℕ) (p : Pen V) (all : List Made) (plan : List Act) → AreDue V p.cells.now.layout.shape all p.seat.now.acts plan → IsDue V plan p
plan_is_due V p all plan d = record { all = all; later = []; due = subst (λ (zs : List Act). AreDue V p.cells.now.layout.shape all p.seat.now.acts zs) (sym (append-nil plan)) d }

-- ---- what is made
pub shape_kept : {V : ℕ} {p q : Pen V} → IsSamePen V p q → q.cells.now.layout.shape ≡ p.cells.now.layout.shape
shape_kept s = ap (λ c. c.now.layout.shape) s.cells

pub same_then : {V : ℕ} {p q r : Pen V} → IsSamePen V p q → IsSamePen V q r → IsSamePen V p r
same_then s t = record { cells = t.cells ∙ s.cells; seat = t.seat ∙ s.seat }

pub made_none : (V : ℕ) (p : Pen V) → HasMade V [] p p
made_none V p = record { same = record { cells = refl; seat = refl }; of = refl; acts = sym (append-nil p.seat.now.acts); notes = grow_self p.seat.now.notes }

pub made_then : {V : ℕ} {xs ys : List Act} {p q r : Pen V} → HasMade V xs p q → HasMade V ys q r → HasMade V (xs ++ ys) p r
made_then {V} {xs} {ys} {p} {q} {r} m n = record {
  same = same_then m.same n.same;
  of = n.of ∙ m.of;
  acts = n.acts ∙ (ap (λ (ms : List Made). ms ++ as_made ys) m.acts ∙ (append_assoc p.seat.now.acts (as_made xs) (as_made ys) ∙ ap (λ (ms : List Made). p.seat.now.acts ++ ms) (sym (made_append xs ys))));
  notes = grow_trans m.notes n.notes;
}

-- ---- a plan, part after part
pub none_yet : (V : ℕ) (plan : List Act) (p : Pen V) → HasMadeUpTo V plan plan p p
none_yet V plan p = record { done = []; parts = refl; made = made_none V p }

pub one_more : {V : ℕ} {plan : List Act} {p q r : Pen V} (rest part later : List Act) → rest ≡ part ++ later → HasMadeUpTo V plan rest p q → HasMade V part q r → HasMadeUpTo V plan later p r
one_more rest part later e m n = record {
  done = m.done ++ part;
  parts = m.parts ∙ (ap (λ (zs : List Act). m.done ++ zs) e ∙ sym (append_assoc m.done part later));
  made = made_then m.made n;
}

pub all_made : {V : ℕ} {plan : List Act} {p q : Pen V} (rest : List Act) → rest ≡ [] → HasMadeUpTo V plan rest p q → HasMade V plan p q
all_made {V} {plan} {p} {q} rest e m = subst (λ (zs : List Act). HasMade V zs p q) (sym (m.parts ∙ (ap (λ (zs : List Act). m.done ++ zs) e ∙ append-nil m.done))) m.made

pub due_then : {V : ℕ} {plan : List Act} {p q : Pen V} (rest : List Act) → HasMadeUpTo V plan rest p q → IsDue V plan p → IsDue V rest q
due_then {V} {plan} {p} {q} rest m d = rest_due rest m.made (subst (λ (zs : List Act). IsDue V zs p) m.parts d)
