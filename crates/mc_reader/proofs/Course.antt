-- A reader's course through a lookup: its beginning, one access more, its end, and that the reply is true.
use Rattle.std.proofs.Common.{ℕ, ◌≡◌, ◌+◌, ◌-◌, ◌*◌, ◌^◌, ◌<◌, List, [], ◌∷◌, ◌++◌, length, Some, None, refl, ap, sym, ◌∙◌, subst, arith, append_assoc, length-append, ◌⊎◌, ⊎_elim}
use Rattle.std.specs.Prelude.{◌↔◌}
use Rattle.std.proofs.lemmas.Bool.{cond_below, cond_above}
use Rattle.std.proofs.lemmas.List.{append-nil}
use Rattle.mc_words.specs.declared.policy.Policy.{Policy}
use Rattle.mc_words.specs.History.{IsTrueAnswer}
use Rattle.mc_words.specs.Shapes.{IsShape}
use Rattle.mc_words.specs.declared.history.Reply.{Reply}
use Rattle.mc_words.specs.declared.shape.Shape.{Shape}
use Rattle.mc_theory.specs.Lists.{Made, front, state_of}
use Rattle.mc_theory.specs.Lookups.{IsLookup}
use Rattle.mc_lookup.specs.Machine.{held_by, shape_for, place_in, lookup_place, next_at, next_access, slots_from, reply_at, reply_now, IsRemainderAt, IsRemainder, Consumes, steps_left}
use Rattle.mc_theory.specs.Readings.{Reading, AreRead}
use Rattle.mc_theory.specs.Plain.{IsBetween}
use Rattle.mc_theory.specs.States.{State}
use Rattle.mc_theory.specs.declared.access.Access.{Access}
use Rattle.mc_lookup.specs.declared.lookup.Lookup.{Lookup}
use Rattle.mc_lookup.specs.declared.stage.Stage.{Stage}
use Rattle.mc_lookup.specs.declared.stage.Stage.TheVariants.{First, Slot, Key, Value, Stamp, Moment, Last, Mark, Over}
use Rattle.mc_theory.proofs.Lists.Fronts.{front_all, front_append}
use Rattle.mc_theory.proofs.Replies.TrueReplies.{replies_are_true}
use Rattle.mc_theory.proofs.Lists.Readings.{read_parts}
use Rattle.mc_shared.specs.Records.{ReaderRecord, reader_record}
use Rattle.mc_shared.specs.Steps.{ReadsOne, reading, mark_at}
use Rattle.mc_shared.specs.TableRule.{IsRecord}
use Rattle.mc_shared.specs.Views.{layout_with, AreLawful, IsFrontOf}
use Rattle.mc_shared.proofs.ReaderRecords.{front_self, front_trans, front_length}
use Rattle.mc_words.specs.Keys.{first_of, second_of, stripe_of}
use Rattle.mc_words.specs.Places.{payload, slot_number, slot_place, version_place, word_count}
use Rattle.mc_words.specs.declared.place.Place.{Place}
use Rattle.mc_theory.proofs.Lists.Growth.{readings_grow}
use Rattle.mc_theory.specs.Writes.{place_read, IsAccess}
use Rattle.mc_theory.proofs.Lists.WrittenWords.{reads_its_word}
use Rattle.mc_lookup.proofs.NextAccess.{next_is_in_table}
use Rattle.mc_theory.specs.declared.access.Access.TheVariants as access
use Rattle.mc_reader.specs.Inside.Course.{IsOnCourse, Leads}
use Rattle.mc_reader.specs.Inside.Rows.{row_of}
use Rattle.mc_reader.specs.Records.{HasLooked, EndsAt}

-- a reading more at the front g ends there
ends_push : (f : ℕ) (rs : List Reading) (r : Reading) → EndsAt f (rs ++ r ∷ []) r.front
ends_push f [] r = refl
ends_push f (x ∷ xs) r = ends_push x.front xs r

-- ---- the beginning
pub sets_out : (V : ℕ) (sh : Shape) (k : ℕ) (before : ReaderRecord) (lookup : Lookup V) → shape_for lookup ≡ sh → ((rs : List Reading) (reply : Reply V) → IsRemainder lookup rs reply ↔ IsLookup V sh k sh.tries rs reply) → steps_left lookup ≡ sh.tries * (19 + payload V) + 1 → IsOnCourse V sh k before before lookup
sets_out V sh k before lookup shape left steps = record {
  rs = [];
  of = refl;
  number = refl;
  done = sym (append-nil before.done);
  begins = front_self before.front;
  rise = omega arith;
  last = refl;
  shape = shape;
  left = left;
  steps = omega (arith, steps);
}

-- ---- one access more
pub goes_on : (V : ℕ) (sh : Shape) (k : ℕ) (before old new : ReaderRecord) (lookup next : Lookup V) (a : Access) (word : ℕ) → new.of ≡ old.of → new.number ≡ old.number → IsFrontOf old.front new.front → new.done ≡ old.done ++ reading a word new.front ∷ [] → Consumes lookup a word next → IsOnCourse V sh k before old lookup → IsOnCourse V sh k before new next
goes_on V sh k before old new lookup next a word of number begins adds t w =
    let r : Reading = reading a word new.front in
    let le = front_length old.front new.front begins in
    let one : (rest : List Reading) → (w.rs ++ r ∷ []) ++ rest ≡ w.rs ++ r ∷ rest = λ rest. append_assoc w.rs (r ∷ []) rest in
    record {
      rs = w.rs ++ r ∷ [];
      of = of ∙ w.of;
      number = number ∙ w.number;
      done = adds ∙ (ap (λ (z : List Reading). z ++ r ∷ []) w.done ∙ append_assoc before.done w.rs (r ∷ []));
      begins = front_trans before.front old.front new.front w.begins begins;
      rise = (readings_grow V).more (length before.front) (length new.front) w.rs r ((readings_grow V).later (length before.front) (length old.front) (length new.front) w.rs w.rise le) (omega arith);
      last = ends_push (length before.front) w.rs r;
      shape = ap (λ c. c.shape) t.shape ∙ w.shape;
      left = λ rest reply. (
        (λ x. subst (λ (z : List Reading). IsLookup V sh k sh.tries z reply) (sym (one rest)) ((w.left (r ∷ rest) reply).0 ((t.left r.front rest reply).0 x))),
        (λ y. (t.left r.front rest reply).1 ((w.left (r ∷ rest) reply).1 (subst (λ (z : List Reading). IsLookup V sh k sh.tries z reply) (one rest) y))),
      );
      steps = omega (arith, w.steps, t.fewer, length-append w.rs (r ∷ []));
    }

-- ---- the end
over_at : {V : ℕ} (l : Lookup V) (stage : Stage) (reply : Reply V) → reply_at l stage ≡ Some reply → IsRemainderAt V (shape_for l) l.key l.tries l.version (held_by l) l.reply stage [] reply
over_at l First reply e = absurd (cc)
over_at l (Slot j) reply e = absurd (cc)
over_at l (Key j i) reply e = absurd (cc)
over_at l (Value i c) reply e = absurd (cc)
over_at l (Stamp i) reply e = absurd (cc)
over_at l (Moment hit) reply e = absurd (cc)
over_at l (Last hit at) reply e = absurd (cc)
over_at l (Mark i) reply e = absurd (cc)
over_at l Over reply e = (refl, cc)

over_left : {V : ℕ} (l : Lookup V) (reply : Reply V) → reply_now l ≡ Some reply → IsRemainder l [] reply
unfolding IsRemainder
over_left l reply e = over_at l l.stage reply e

pub ends : (V : ℕ) {policy : Policy} (sh : Shape) (k : ℕ) (before after : ReaderRecord) (lookup : Lookup V) (reply : Reply V) → after.of.layout ≡ layout_with V policy sh → IsRecord after.of.layout after.front after.done → reply_now lookup ≡ Some reply
    → IsOnCourse V sh k before after lookup → HasLooked V sh k before after reply
ends V sh k before after lookup reply layout recorded over w = record {
  rs = w.rs;
  of = w.of;
  number = w.number;
  done = w.done;
  begins = w.begins;
  rise = w.rise;
  last = w.last;
  read = (read_parts V sh after.front before.done w.rs (subst (λ (z : List Reading). AreRead V sh after.front z) w.done (subst (λ l. IsRecord l after.front after.done) layout recorded).read)).1;
  looked = subst (λ (z : List Reading). IsLookup V sh k sh.tries z reply) (append-nil w.rs) ((w.left [] reply).0 (over_left lookup reply over));
  steps = omega (arith, w.steps);
}

-- ---- the reply is true
pub old_front : (V : ℕ) (sh : Shape) (xs ys : List Made) → IsFrontOf xs ys → front V sh ys (length xs) ≡ state_of V sh xs
old_front V sh xs ys p = ap (λ (z : List Made). front V sh z (length xs)) p.1 ∙ (front_append V sh xs p.0 (length xs) (omega arith) ∙ front_all V sh xs (length xs) (omega arith))

pub tells_true : (V : ℕ) {policy : Policy} (sh : Shape) (k : ℕ) (before after : ReaderRecord) (reply : Reply V) → IsShape sh → k < 2 ^ 64 → after.of.layout ≡ layout_with V policy sh → AreLawful after.of.layout after.front → HasLooked V sh k before after reply
    → IsTrueAnswer (state_of V sh after.front).history k reply × IsBetween (length (state_of V sh before.front).history) (length (state_of V sh after.front).history) reply
tells_true V {policy} sh k before after reply shape small layout lawful h =
    let lawful' : AreLawful (layout_with V policy sh) after.front = subst (λ l. AreLawful l after.front) layout lawful in
    let both = replies_are_true V sh after.front k sh.tries (length before.front) (length after.front) h.rs reply shape lawful' small (omega arith) h.read h.rise h.looked in
    (both.0, subst (λ (y : State V × State V). IsBetween (length y.0.history) (length y.1.history) reply) (λ i. (old_front V sh before.front after.front h.begins i, front_all V sh after.front (length after.front) (omega arith) i)) both.1)

-- ---- one stage after the other
pub leads_self : (V : ℕ) (sh : Shape) (r : ReaderRecord) (l : Lookup V) → Leads V sh r l r l
leads_self V sh r l = record { of = refl; number = refl; shape = refl; key = refl; way = λ k before w. w; most = omega arith }

pub leads_on : (V : ℕ) {policy : Policy} (sh : Shape) (old mid new : ReaderRecord) (l m n : Lookup V) (a b : Access) (word : ℕ) → Leads V sh old l mid m → new.of ≡ mid.of → new.number ≡ mid.number → ReadsOne (layout_with V policy sh) mid.front mid.done a word new.front new.done → a ≡ b → Consumes m b word n → Leads V sh old l new n
leads_on V sh old mid new l m n a b word on of number one same t = record {
  of = of ∙ on.of;
  number = number ∙ on.number;
  shape = t.shape ∙ on.shape;
  key = t.key ∙ on.key;
  way = λ k before w. goes_on V sh k before mid new m n b word of number one.begins (one.adds ∙ ap (λ (c : Access). mid.done ++ reading c word new.front ∷ []) same) t (on.way k before w);
  most = omega (arith, on.most, t.fewer);
}

-- the same for a mark
pub leads_mark : (V : ℕ) (sh : Shape) (old mid new : ReaderRecord) (l m n : Lookup V) (i : ℕ) → Leads V sh old l mid m → new ≡ reader_record mid.of mid.number mid.front (mid.done ++ mark_at i mid.front ∷ []) → Consumes m (access.Mark i) 0 n → Leads V sh old l new n
leads_mark V sh old mid new l m n i on e t = record {
  of = ap (λ (r : ReaderRecord). r.of) e ∙ on.of;
  number = ap (λ (r : ReaderRecord). r.number) e ∙ on.number;
  shape = t.shape ∙ on.shape;
  key = t.key ∙ on.key;
  way = λ k before w. goes_on V sh k before mid new m n (access.Mark i) 0 (ap (λ (r : ReaderRecord). r.of) e) (ap (λ (r : ReaderRecord). r.number) e) (subst (λ (r : ReaderRecord). IsFrontOf mid.front r.front) (sym e) (front_self mid.front))
      (ap (λ (r : ReaderRecord). r.done) e ∙ ap (λ (f : List Made). mid.done ++ mark_at i f ∷ []) (sym (ap (λ (r : ReaderRecord). r.front) e))) t (on.way k before w);
  most = omega (arith, on.most, t.fewer);
}

-- ---- the stage determines the access that comes next
pub next_is : (V : ℕ) (l : Lookup V) (st : Stage) (a : Access) → l.stage ≡ st → next_at l st ≡ Some a → next_access l ≡ Some a
next_is V l st a e is = ap (next_at l) e ∙ is

pub slots_below : (j : ℕ) → j < 8 → slots_from j ≡ Slot j
slots_below j l = sym (cond_below j 8 (Slot j) (Moment None) l)

pub leads_trans : (V : ℕ) (sh : Shape) (old mid new : ReaderRecord) (l m n : Lookup V) → Leads V sh old l mid m → Leads V sh mid m new n → Leads V sh old l new n
leads_trans V sh old mid new l m n a b = record {
  of = b.of ∙ a.of;
  number = b.number ∙ a.number;
  shape = b.shape ∙ a.shape;
  key = b.key ∙ a.key;
  way = λ k before w. b.way k before (a.way k before w);
  most = omega (arith, a.most, b.most);
}

-- ---- what a lookup reads next is before the recency words
pub next_within : (V : ℕ) (sh : Shape) (l : Lookup V) (a : Access) (n : ℕ) → shape_for l ≡ sh → next_access l ≡ Some a → place_read V sh a ≡ Some n → n < word_count V sh
next_within V sh l a n shape next here =
    let is : IsAccess V sh a = subst (λ (z : Shape). IsAccess V z a) shape (next_is_in_table V l a next) in
    (reads_its_word V sh [] a n here).1 is

-- the version of its key
pub version_read : (V : ℕ) (sh : Shape) (l : Lookup V) (k s place : ℕ) → shape_for l ≡ sh → l.key ≡ k → s ≡ stripe_of (shape_for l) l.key → place ≡ version_place (stripe_of sh k) → place_read V sh (access.Version s) ≡ Some place
version_read V sh l k s place shape key is here = ap (λ (t : ℕ). Some (version_place t)) (is ∙ λ i. stripe_of (shape i) (key i)) ∙ ap Some (sym here)

pub version_next : (V : ℕ) (l : Lookup V) (s : ℕ) → s ≡ stripe_of (shape_for l) l.key → access.Version l.parts.stripe ≡ access.Version s
version_next V l s is = ap access.Version (l.parts_are.stripe ∙ sym is)

-- slot j of four, in a row that begins at slot `from` of the eight
row_next : (sh : Shape) (k from j : ℕ) → (from ≡ 0) ⊎ (from ≡ 4) → j < 4 → row_of sh k (from + j) ≡ row_of sh k from + j
row_next sh k from j which below = ⊎_elim
    (λ (e : from ≡ 0). subst (λ (f : ℕ). row_of sh k (f + j) ≡ row_of sh k f + j) (sym e) (first_row j below))
    (λ (e : from ≡ 4). subst (λ (f : ℕ). row_of sh k (f + j) ≡ row_of sh k f + j) (sym e) (second_row j below))
    which
  where
    first_row : (j : ℕ) → j < 4 → row_of sh k (0 + j) ≡ row_of sh k 0 + j
    first_row j below = ap (λ (p : Place). slot_place sh (slot_number p)) (sym (cond_below (0 + j) 4 (record { bucket = first_of sh k; slot = 0 + j }) (record { bucket = second_of sh k; slot = 0 + j - 4 }) (omega arith))) ∙ omega arith

    second_row : (j : ℕ) → j < 4 → row_of sh k (4 + j) ≡ row_of sh k 4 + j
    second_row j below = ap (λ (p : Place). slot_place sh (slot_number p)) (sym (cond_above (4 + j) 4 (record { bucket = first_of sh k; slot = 4 + j }) (record { bucket = second_of sh k; slot = 4 + j - 4 }) (record { bucket = second_of sh k; slot = 4 + j - 4 }) (omega arith) refl)) ∙ omega arith

pub slot_read : (V : ℕ) (sh : Shape) (l : Lookup V) (k from j row : ℕ) (p : Place) → shape_for l ≡ sh → l.key ≡ k → p ≡ lookup_place l (from + j) → (from ≡ 0) ⊎ (from ≡ 4) → j < 4 → row ≡ row_of sh k from → place_read V sh (access.Slot p) ≡ Some (row + j)
slot_read V sh l k from j row p shape key is which below here =
    let first : l.parts.first ≡ first_of sh k = l.parts_are.first ∙ λ i. first_of (shape i) (key i) in
    let second : l.parts.second ≡ second_of sh k = l.parts_are.second ∙ λ i. second_of (shape i) (key i) in
    let place : p ≡ place_in (first_of sh k) (second_of sh k) (from + j) = is ∙ λ i. place_in (first i) (second i) (from + j) in
    ap (λ (q : Place). Some (slot_place sh (slot_number q))) place ∙ ap Some (row_next sh k from j which below ∙ ap (λ (r : ℕ). r + j) (sym here))
