-- Along an execution the list of acts and each record only grow, and each of their elements was added by one step.
use mathlib.Core.Logic.{dite}
use native.Mathlib.Decide.{ℕ_discrete, dec_le}
use Rattle.std.specs.Prelude.{slice_get}
use Rattle.std.proofs.Common.{◌≡◌, ℕ, zero, suc, ◌+◌, ◌-◌, ◌<◌, ◌≤◌, List, [], ◌∷◌, ◌++◌, length, set, refl, ap, sym, ◌∙◌, subst, arith, append_assoc, append-nil, length-append, Some}
use mathlib.Core.Option.{some}
use lib.ListN.{get_elem?}
use Rattle.mc_theory.specs.Lists.{Made}
use Rattle.mc_theory.specs.Readings.{Reading}
use Rattle.mc_shared.specs.ExactLaws.{AddsEntry}
use Rattle.mc_shared.specs.Views.{Note, View, writer_view, reader_view, new_writer_view, seated_in, with_note, IsFrontOf}
use Rattle.mc_shared.specs.declared.layout.Layout.{Layout}
use Rattle.mc_shared.proofs.ReaderRecords.{front_self, front_trans, front_length}
use Rattle.mc_executions.specs.Executions.{TableState, IsExecution, HasRecord, HasActs}
use Rattle.mc_executions.proofs.ExecutionSteps.{hit, log_is, LogStep, rests, grows, OneMove, IsHonest}
use Rattle.mc_executions.proofs.ListParts.{same_parts}
use Rattle.mc_executions.proofs.StepMoves.{moves, record_is_one, log_step, keeps, adds, record_step}

-- the last element of a list
got_at_end : (xs ys : List Made) (m : Made) → slice_get ((xs ++ m ∷ []) ++ ys) (length xs) ≡ Some m
got_at_end [] ys m = refl
got_at_end (x ∷ xs) ys m = got_at_end xs ys m

pub got_short : (xs : List Made) (n : ℕ) (m : Made) → slice_get xs n ≡ Some m → n < length xs
got_short [] n m e = absurd (cc)
got_short (x ∷ xs) zero m e = omega arith
got_short (x ∷ xs) (suc n) m e = let h = got_short xs n m e in omega (arith, h)

pub one_made : (x y : Made) → Some x ≡ Some y → x ≡ y
one_made x y e = cc

module _ (l : Layout) (states : ℕ → TableState) (run : IsExecution l states) where
  abbrev log : ℕ → List Made
  log n = (run.ruled n).log

  pub move : (n : ℕ) → OneMove l (states n) (states (suc n)) (run.ruled n) (run.ruled (suc n))
  move n = moves l (states n) (states (suc n)) (run.ruled n) (run.ruled (suc n)) (run.steps n)

  log_grows_by : (n : ℕ) → LogStep l (states n) (states (suc n)) (run.ruled n) (run.ruled (suc n)) → IsFrontOf (log n) (log (suc n))
  log_grows_by n (rests e) = subst (IsFrontOf (log n)) (sym e) (front_self (log n))
  log_grows_by n (grows m seat note knows step e honest) = (m ∷ [], e)

  -- the list of acts only grows
  pub logs_grow : (m i : ℕ) → IsFrontOf (log i) (log (i + m))
  logs_grow zero i = subst (λ (n : ℕ). IsFrontOf (log i) (log n)) (omega arith) (front_self (log i))
  logs_grow (suc m) i = subst (λ (n : ℕ). IsFrontOf (log i) (log n)) (omega arith) (front_trans (log i) (log (suc i)) (log (suc i + m)) (log_grows_by i (log_step (move i))) (logs_grow m (suc i)))

  -- and so does each record
  records_grow : (m i a : ℕ) (d e : List Reading) → HasRecord a (states i) d → HasRecord a (states (i + m)) e → (more : List Reading) × (e ≡ d ++ more)
  records_grow zero i a d e h h' = ([], record_is_one l (states i) a e d (run.ruled i) (subst (λ (n : ℕ). HasRecord a (states n) e) (omega arith) h') h ∙ sym (append-nil d))
  records_grow (suc m) i a d e h h' =
      let end : HasRecord a (states (suc i + m)) e = subst (λ (n : ℕ). HasRecord a (states n) e) (omega arith) h' in
      elim (record_step a d (move i) h) [
        | keeps k ↦ records_grow m (suc i) a d e k end
        | adds x entry is number k ↦ let q = records_grow m (suc i) a (d ++ x ∷ []) e k end in (x ∷ q.0, q.1 ∙ append_assoc d (x ∷ []) q.0)
      ]

  -- the step between states i and j that entered entry n of a reader whose record is e at state j
  pub record FoundEntry (i j a n : ℕ) (e : List Reading) : Type 0 where
    pub p : ℕ
    pub from : i ≤ p
    pub until : p < j
    pub x : Reading
    pub entry : AddsEntry l (states p) (states (suc p)) (log p) x
    pub place : length entry.done ≡ n
    pub number : entry.number ≡ a
    pub rest : List Reading
    pub parts : e ≡ entry.done ++ x ∷ rest

  wider : (i m a n : ℕ) (e : List Reading) → FoundEntry (suc i) (suc i + m) a n e → FoundEntry i (i + suc m) a n e
  wider i m a n e f = record { p = f.p; from = omega (arith, f.from); until = omega (arith, f.until); x = f.x; entry = f.entry; place = f.place; number = f.number; rest = f.rest; parts = f.parts }

  find_entry : (m i n a : ℕ) (d e : List Reading) → HasRecord a (states i) d → HasRecord a (states (i + m)) e → length d ≤ n → n < length e → FoundEntry i (i + m) a n e
  find_entry zero i n a d e h h' le lt =
      let same : d ≡ e = record_is_one l (states i) a d e (run.ruled i) h (subst (λ (n : ℕ). HasRecord a (states n) e) (omega arith) h') in
      absurd (omega (arith, ap length same, le, lt))
  find_entry (suc m) i n a d e h h' le lt =
      let end : HasRecord a (states (suc i + m)) e = subst (λ (n : ℕ). HasRecord a (states n) e) (omega arith) h' in
      elim (record_step a d (move i) h) [
        | keeps k ↦ wider i m a n e (find_entry m (suc i) n a d e k end le lt)
        | adds x entry is number k ↦ dite (ℕ_discrete (length d) n)
            (λ y.
            let q = records_grow m (suc i) a (d ++ x ∷ []) e k end in
            record {
              p = i;
              from = omega arith;
              until = omega arith;
              x = x;
              entry = entry;
              place = ap length is ∙ y;
              number = number;
              rest = q.0;
              parts = q.1 ∙ (append_assoc d (x ∷ []) q.0 ∙ ap (λ (z : List Reading). z ++ x ∷ q.0) (sym is));
            })
            (λ ne. wider i m a n e (find_entry m (suc i) n a (d ++ x ∷ []) e k end (omega (arith, le, ne, length-append d (x ∷ []))) lt))
      ]

  -- the step that made act n
  pub record FoundAct (i j n : ℕ) : Type 0 where
    pub p : ℕ
    pub from : i ≤ p
    pub until : p < j
    pub place : length (log p) ≡ n
    pub m : Made
    pub seat : ℕ
    pub note : Note
    pub knows : get_elem? (states p).views seat ≡ some (writer_view l (log p) (run.ruled p).tally)
    pub step : (states (suc p)).views ≡ set (states p).views seat (writer_view l (log p ++ m ∷ []) (with_note (run.ruled p).tally note))
    pub more : log (suc p) ≡ log p ++ m ∷ []
    pub honest : IsHonest l (states p) m

  wider_act : (i m n : ℕ) → FoundAct (suc i) (suc i + m) n → FoundAct i (i + suc m) n
  wider_act i m n f = record { p = f.p; from = omega (arith, f.from); until = omega (arith, f.until); place = f.place; m = f.m; seat = f.seat; note = f.note; knows = f.knows; step = f.step; more = f.more; honest = f.honest }

  find_act : (m i n : ℕ) → length (log i) ≤ n → n < length (log (i + m)) → FoundAct i (i + m) n
  find_act zero i n le lt =
      let same : log i ≡ log (i + 0) = ap log (omega arith) in
      absurd (omega (arith, ap length same, le, lt))
  find_act (suc m) i n le lt =
      let end : n < length (log (suc i + m)) = subst (λ (k : ℕ). n < length (log k)) (omega arith) lt in
      elim (log_step (move i)) [
        | rests e ↦ wider_act i m n (find_act m (suc i) n (omega (arith, le, ap length e)) end)
        | grows d seat note knows step e honest ↦ dite (ℕ_discrete (length (log i)) n)
            (λ y. record { p = i; from = omega arith; until = omega arith; place = y; m = d; seat = seat; note = note; knows = knows; step = step; more = e; honest = honest })
            (λ ne. wider_act i m n (find_act m (suc i) n (omega (arith, le, ne, ap length e, length-append (log i) (d ∷ []))) end))
      ]

  -- the same between any two states
  pub front_between : (m n : ℕ) → m ≤ n → IsFrontOf (log m) (log n)
  front_between m n le = subst (λ (k : ℕ). IsFrontOf (log m) (log k)) (omega (arith, le)) (logs_grow (n - m) m)

  pub entry_between : (i j n a : ℕ) (d e : List Reading) → i ≤ j → HasRecord a (states i) d → HasRecord a (states j) e → length d ≤ n → n < length e → FoundEntry i j a n e
  entry_between i j n a d e le h h' low high =
      let same : i + (j - i) ≡ j = omega (arith, le) in
      subst (λ (k : ℕ). FoundEntry i k a n e) same (find_entry (j - i) i n a d e h (subst (λ (k : ℕ). HasRecord a (states k) e) (sym same) h') low high)

  pub act_before : (j n : ℕ) → n < length (log j) → FoundAct 0 j n
  act_before j n high =
      let none : [] ≡ log 0 = (log_is l (states 0) (run.ruled 0) 0 (new_writer_view l) (ap (λ (vs : List View). get_elem? vs 0) run.opened) tt).0 in
      let same : 0 + j ≡ j = omega arith in
      subst (λ (k : ℕ). FoundAct 0 k n) same (find_act j 0 n (omega (arith, ap length none)) (subst (λ (k : ℕ). n < length (log k)) (sym same) high))

  -- the reader's record at the step that was found
  pub record_there : (i j a n : ℕ) (e : List Reading) (f : FoundEntry i j a n e) → HasRecord a (states f.p) f.entry.done
  record_there i j a n e f = record {
    seat = f.entry.seat;
    view = reader_view l f.entry.number f.entry.old f.entry.done;
    mine = f.entry.reads;
    reader = ap (λ (m : ℕ). seated_in a (reader_view l m f.entry.old f.entry.done).role) f.number ∙ hit a;
    is = refl;
  }

  -- the act that was found is one of the later list
  pub act_there : (i j n : ℕ) (f : FoundAct i j n) → slice_get (log j) n ≡ Some f.m
  act_there i j n f =
      let begun = front_between (suc f.p) j f.until in
      ap (λ (z : List Made). slice_get z n) (begun.1 ∙ ap (λ (z : List Made). z ++ begun.0) f.more)
      ∙ (ap (slice_get ((log f.p ++ f.m ∷ []) ++ begun.0)) (sym f.place) ∙ got_at_end (log f.p) begun.0 f.m)

  -- acts are made in their order
  pub acts_in_order : (i j m n : ℕ) (f : FoundAct i j m) (g : FoundAct i j n) → m < n → f.p < g.p
  acts_in_order i j m n f g lt = dite (dec_le (suc f.p) g.p) (λ y. y) (λ no.
      absurd (omega (arith, front_length (log g.p) (log f.p) (front_between g.p f.p (omega (arith, no))), f.place, g.place, lt)))

  -- the acts that were made are those of the writer's record
  pub acts_are : (n : ℕ) (acts : List Made) → HasActs (states n) acts → log n ≡ acts
  acts_are n acts h = sym (log_is l (states n) (run.ruled n) h.seat h.view h.mine h.writer).0 ∙ h.is

  pub records_pass : (i j a : ℕ) (done xs ys : List Reading) → i ≤ j → HasRecord a (states i) done → HasRecord a (states j) (done ++ xs ++ ys) → (m : ℕ) × (i ≤ m) × (m ≤ j) × HasRecord a (states m) (done ++ xs)
  records_pass i j a done xs [] le h h' = (j, le, omega arith, subst (HasRecord a (states j)) (append-nil (done ++ xs)) h')
  records_pass i j a done xs (y ∷ ys) le h h' =
      let e : List Reading = done ++ xs ++ y ∷ ys in
      let n : ℕ = length (done ++ xs) in
      let long : length e ≡ n + suc (length ys) = length-append (done ++ xs) (y ∷ ys) in
      let f = entry_between i j n a done e le h h' (omega (arith, length-append done xs)) (omega (arith, long)) in
      let cut = same_parts (done ++ xs) (y ∷ ys) f.entry.done (f.x ∷ f.rest) (sym f.place) f.parts in
      (f.p, f.from, omega (arith, f.until), subst (HasRecord a (states f.p)) (sym cut.0) (record_there i j a n e f))
