-- A lookup that was busy, and was then made beside the writer: its reply is true between call and return.
use Rattle.std.proofs.Common.{◌≡◌, ⊎_elim, ℕ, zero, suc, ◌<◌, ◌≤◌, List, [], ◌∷◌, ◌++◌, length, take, refl, ap, sym, ◌∙◌, subst, arith, append-nil, length-append}
use Rattle.std.proofs.Math.Seq.{take-append_seam}
use Rattle.mc_words.specs.History.{IsTrueAnswer, map_value}
use Rattle.mc_words.specs.Keys.{stripe_of}
use Rattle.mc_words.specs.declared.history.Change.{Change}
use Rattle.mc_words.specs.declared.history.Reply.{Reply}
use Rattle.mc_words.specs.declared.history.Reply.TheVariants.{Found, Absent, Busy}
use Rattle.mc_words.specs.declared.shape.Shape.{Shape}
use Rattle.mc_theory.specs.Lists.{Made, state_of}
use Rattle.mc_theory.specs.Lookups.{IsLookup}
use Rattle.mc_theory.specs.Plain.{IsBetween}
use Rattle.mc_theory.specs.Readings.{Reading, RiseTo}
use Rattle.mc_theory.specs.States.{State}
use Rattle.mc_theory.specs.declared.access.Access.{Access}
use Rattle.mc_theory.specs.declared.access.Access.TheVariants.{Version}
use Rattle.mc_shared.specs.ExactFronts.{StandsAt}
use Rattle.mc_shared.specs.Records.{ReaderRecord}
use Rattle.mc_shared.specs.Steps.{mark_at}
use Rattle.mc_shared.specs.TableRule.{FitsRole, Ruled}
use Rattle.mc_shared.specs.Views.{Role, Spent, Writes, Reads, Both, Tally, IsFrontOf, front_in, layout_with, seated_in}
use Rattle.mc_shared.specs.declared.layout.Layout.{Layout}
use Rattle.mc_shared.proofs.ExactReadings.{readings_are_newest}
use Rattle.mc_shared.proofs.ReaderRecords.{front_length}
use Rattle.mc_writer.specs.WriterCalls.{RepliesNow}
use Rattle.mc_executions.specs.Executions.{TableState, HasRecord, HasReader, log_at}
use Rattle.mc_executions.specs.TimedLookups.{HoldsNow, FallbacksAreTimed, history_at}
use Rattle.mc_executions.proofs.ExecutionRuns.{front_between, records_pass}
use Rattle.mc_executions.proofs.TimedChanges.{begins_all, holds_between, many_rise}
use Rattle.mc_executions.proofs.TimedLookups.{lookups_are_timed, replies_hold}

-- ---- what a reader's record is in a state
pub reads : (r : ReaderRecord) (s : TableState) → HasReader r s → HasRecord r.number s r.done
reads r s h = record { seat = h.seat; view = h.view; mine = h.mine; reader = h.reader; is = h.is }

front_fits : (l own : Layout) (log : List Made) (all : Tally) (at seat a : ℕ) (role : Role) → FitsRole l own log all at seat role → seated_in a role ≡ 1 → IsFrontOf (front_in role) log
front_fits l own log all at seat a Spent f e = absurd (omega (arith, e))
front_fits l own log all at seat a (Writes acts tally) f e = absurd (omega (arith, e))
front_fits l own log all at seat a (Reads number front done) f e = f.1
front_fits l own log all at seat a (Both acts tally number front done) f e = f.4

-- it has seen a front of the acts that were made
front_at : (l : Layout) (s : TableState) (rule : Ruled l s) (r : ReaderRecord) → HasReader r s → IsFrontOf r.front rule.log
front_at l s rule r h =
    subst (λ (z : List Made). IsFrontOf z rule.log) h.front (front_fits l h.view.layout rule.log rule.tally rule.at h.seat r.number h.view.role (rule.views h.seat h.view h.mine) h.reader)

-- ---- lists
head_of : {A : Type 0} → A → List A → A
head_of x [] = x
head_of x (y ∷ ys) = y

tail_of : {A : Type 0} → List A → List A
tail_of [] = []
tail_of (y ∷ ys) = ys

-- of two fronts of one list the shorter begins the longer
nest : {A : Type 0} (xs ys p q : List A) → xs ++ p ≡ ys ++ q → length xs ≤ length ys → (more : List A) × (ys ≡ xs ++ more)
unfolding tail_of head_of
nest [] ys p q e le = (ys, refl)
nest (x ∷ xs) [] p q e le = absurd (omega (arith, le))
nest (x ∷ xs) (y ∷ ys) p q e le =
    let rest = nest xs ys p q (ap tail_of e) (omega (arith, le)) in
    (rest.0, λ i. (sym (ap (head_of x) e)) i ∷ rest.1 i)

-- ---- the first reading of a lookup is of a version, and stands at the front of all acts that were made
first_is : (V : ℕ) (sh : Shape) (k t : ℕ) (e : Reading) (more rs : List Reading) (reply : Reply V) → 0 < t → rs ≡ e ∷ more → IsLookup V sh k t rs reply → e.access ≡ Version (stripe_of sh k)
unfolding head_of
first_is V sh k zero e more rs reply some is h = absurd (omega (arith, some))
first_is V sh k (suc t) e more rs reply some is h =
    let first = λ (z : List Reading). (head_of e z).access in
    ⊎_elim
    (λ x. ⊎_elim
    (λ y. ap first (sym is ∙ (x.2 ∙ ap (λ (z : List Reading). z ++ x.1) y.1)) ∙ y.2)
    (λ y. ap first (sym is ∙ (x.2 ∙ ap (λ (z : List Reading). z ++ x.1) y.6.parts)) ∙ y.6.first_is)
    x.3)
    (λ x. ap first (sym is ∙ (x.6 ∙ ap (λ (z : List Reading). z ++ x.1) x.7.parts)) ∙ x.7.first_is)
    h

rise_most : (f g : ℕ) (rs : List Reading) → RiseTo f rs g → f ≤ g
rise_most f g [] h = h
rise_most f g (r ∷ rs) h = omega (arith, h.0, rise_most r.front g rs h.1)

-- ---- replies
replies_add : {A : Type 0} (V : ℕ) (sh : Shape) (k : ℕ) (s : State V) (mark : ℕ → A) (done done' : List A) (reply : Reply V) → RepliesNow V sh k s mark done done' reply → (more : List A) × (done' ≡ done ++ more)
replies_add V sh k s mark done done' (Found v at since) x = (mark x.2.1 ∷ [], x.2.3)
replies_add V sh k s mark done done' (Absent at) x = ([], x.2 ∙ sym (append-nil done))
replies_add V sh k s mark done done' Busy x = absurd x

-- what the map held when a history had these changes is a true answer later
later_true : {V : ℕ} (h all : List (Change V)) (k : ℕ) (reply : Reply V) → ((more : List (Change V)) × (all ≡ h ++ more)) → HoldsNow h k reply → IsTrueAnswer all k reply
later_true h all k (Found v at since) p now =
    let same : take at all ≡ h = (λ i. take (now.1 i) (p.1 i)) ∙ take-append_seam h p.0 in
    (omega (arith, now.1, ap length p.1, length-append h p.0), ap (λ (z : List (Change _)). map_value z k) same ∙ now.0)
later_true h all k (Absent at) p now =
    let same : take at all ≡ h = (λ i. take (now.1 i) (p.1 i)) ∙ take-append_seam h p.0 in
    (omega (arith, now.1, ap length p.1, length-append h p.0), ap (λ (z : List (Change _)). map_value z k) same ∙ now.0)
later_true h all k Busy p now = tt

within : {V : ℕ} (lo hi : ℕ) (h : List (Change V)) (k : ℕ) (reply : Reply V) → lo ≤ length h → length h ≤ hi → HoldsNow h k reply → IsBetween lo hi reply
within lo hi h k (Found v at since) low high now = (omega (arith, low, now.1), omega (arith, high, now.1))
within lo hi h k (Absent at) low high now = (omega (arith, low, now.1), omega (arith, high, now.1))
within lo hi h k Busy low high now = tt

pub fallbacks_are_timed : (V : ℕ) → FallbacksAreTimed V
fallbacks_are_timed V policy sh states run i j k old new reply shape small le h h' fallen =
    let l : Layout = layout_with V policy sh in
    let mid = fallen.mid in
    let busy = fallen.busy in
    let acts : List Made = fallen.writer.acts in
    let tries : 0 < sh.tries = omega (arith, shape.tries.0) in
    let began : HasRecord old.number (states i) old.done = reads old (states i) h in
    let more = replies_add V sh k (state_of V sh acts) (λ n. mark_at n acts) mid.done new.done reply fallen.looked.replies in
    let end : HasRecord old.number (states j) (old.done ++ busy.rs ++ more.0) =
    subst (λ (z : ℕ × List Reading). HasRecord z.0 (states j) z.1) (λ n. ((fallen.looked.number ∙ busy.number) n, (more.1 ∙ ap (λ (z : List Reading). z ++ more.0) busy.done) n)) (reads new (states j) h') in
    let p = records_pass l states run i j old.number old.done busy.rs more.0 le began end in
    let x = lookups_are_timed V policy sh states run i p.0 old.number k sh.tries old.done busy.rs Busy shape small tries p.1 began p.3 busy.looked in
    let e : Reading = x.looked.first in
    let log : ℕ → List Made = log_at run in
    let version = first_is V sh k sh.tries e x.looked.more x.looked.rs Busy tries x.looked.from x.looked.looked in
    let newest = readings_are_newest (layout_with V x.looked.policy sh) x.looked.s x.looked.t (log x.first) e x.looked.begins in
    let exact : e.front ≡ length (log x.first) = subst (λ (a : Access). StandsAt a e.front (length (log x.first))) version newest.0 in
    let rise : RiseTo (length old.front) (e ∷ x.looked.more) (length mid.front) = subst (λ (z : List Reading). RiseTo (length old.front) z (length mid.front)) (sym x.is.0 ∙ x.looked.from) busy.rise in
    let low : e.front ≤ length mid.front = rise_most e.front (length mid.front) x.looked.more rise.1 in
    let all : IsFrontOf acts (log j) = subst (λ (z : List Made). IsFrontOf z (log j)) fallen.looked.front (front_at l (states j) (run.ruled j) new h') in
    let early : IsFrontOf (log x.first) (log j) = front_between l states run x.first j (omega (arith, x.in_order, x.ends, p.2)) in
    let before = begins_all V sh (log x.first) acts (nest (log x.first) acts early.0 all.0 (sym early.1 ∙ all.1) (omega (arith, exact, low, front_length mid.front acts fallen.looked.begins))) in
    let after = begins_all V sh acts (log j) all in
    let h0 : List (Change V) = (state_of V sh acts).history in
    let since = many_rise V sh states run i x.first x.begins in
    let lower : length (history_at V sh states run i) ≤ length h0 = omega (arith, since, ap length before.1, length-append (history_at V sh states run x.first) before.0) in
    let upper : length h0 ≤ length (history_at V sh states run j) = omega (arith, ap length after.1, length-append h0 after.0) in
    let now : HoldsNow h0 k reply = replies_hold V sh k (state_of V sh acts) (λ n. mark_at n acts) mid.done new.done reply fallen.looked.replies in
    let true' = later_true h0 (history_at V sh states run j) k reply after now in
    let between' = within (length (history_at V sh states run i)) (length (history_at V sh states run j)) h0 k reply lower upper now in
    record { truth = true'; between = between'; held = holds_between V sh states run k i j reply le true' between' }
