-- In every execution the reply of a lookup is true between its first step and its last.
use Rattle.std.proofs.Common.{◌≡◌, ⊎_elim, ℕ, zero, suc, ◌+◌, ◌-◌, ◌<◌, ◌≤◌, ◌^◌, List, [], ◌∷◌, ◌++◌, length, take, refl, ap, sym, ◌∙◌, subst, arith, append_assoc, append-nil, length-append}
use Rattle.std.proofs.Math.Seq.{take-length}
use Rattle.mc_words.specs.declared.policy.Policy.{Policy}
use Rattle.mc_words.specs.History.{IsTrueAnswer, map_value}
use Rattle.mc_words.specs.Shapes.{IsShape}
use Rattle.mc_words.specs.declared.history.Change.{Change}
use Rattle.mc_words.specs.declared.history.Reply.{Reply}
use Rattle.mc_words.specs.declared.history.Reply.TheVariants.{Found, Absent, Busy}
use Rattle.mc_words.specs.declared.shape.Shape.{Shape}
use Rattle.mc_theory.specs.Lists.{Made, state_of}
use Rattle.mc_theory.specs.Lookups.{IsLookup}
use Rattle.mc_theory.specs.Readings.{Reading}
use Rattle.mc_theory.specs.States.{State}
use Rattle.mc_theory.specs.declared.act.Act.TheVariants.{Mark}
use Rattle.mc_theory.proofs.Lists.Fronts.{state_push}
use Rattle.mc_shared.specs.ExactLaws.{IsLookedUp}
use Rattle.mc_shared.specs.Records.{ReaderRecord}
use Rattle.mc_shared.specs.Steps.{mark_at}
use Rattle.mc_shared.specs.Views.{layout_with, with_bit}
use Rattle.mc_shared.specs.declared.layout.Layout.{Layout}
use Rattle.mc_shared.proofs.OrderedLookups.{lookups_are_in_time}
use Rattle.mc_reader.specs.Records.{HaveLooked}
use Rattle.mc_writer.specs.WriterCalls.{RepliesNow}
use Rattle.mc_executions.specs.Executions.{TableState, IsExecution, HasRecord, HasActs}
use Rattle.mc_executions.specs.TimedLookups.{HoldsNow, history_at, IsTimed, LooksBetween, LookupsAreTimed, GetsAreTimed, ManyAreTimed, WritersGetsAreTimed, BesideIsTimed}
use Rattle.mc_executions.proofs.ExecutionRuns.{FoundEntry, entry_between, record_there, front_between, acts_are, records_pass}
use Rattle.mc_executions.proofs.ListParts.{same_parts}
use Rattle.mc_executions.proofs.TimedChanges.{begins_all, holds_between, many_rise}

-- a lookup with a try left reads something
starts : (V : ℕ) (sh : Shape) (k t : ℕ) (rs : List Reading) (reply : Reply V) → 0 < t → IsLookup V sh k t rs reply → 0 < length rs
starts V sh k zero rs reply some' h = absurd (omega (arith, some'))
starts V sh k (suc t) rs reply some' h = ⊎_elim
    (λ x. ⊎_elim
    (λ y. omega (arith, ap length (x.2 ∙ ap (λ (z : List Reading). z ++ x.1) y.1)))
    (λ y. omega (arith, ap length (x.2 ∙ ap (λ (z : List Reading). z ++ x.1) y.6.parts)))
    x.3)
    (λ x. omega (arith, ap length (x.6 ∙ ap (λ (z : List Reading). z ++ x.1) x.7.parts)))
    h

no_more : (xs : List Reading) → length xs ≡ 0 → xs ≡ []
no_more [] e = refl
no_more (x ∷ xs) e = absurd (omega (arith, e))

-- a lookup whose first entry was entered at f, and its last at g
module _ (V : ℕ) {policy : Policy} (sh : Shape) (states : ℕ → TableState) (run : IsExecution (layout_with V policy sh) states) (i j a k tries : ℕ) (done rs : List Reading) (reply : Reply V) (f : FoundEntry (layout_with V policy sh) states run i j a (length done) (done ++ rs)) (g : FoundEntry (layout_with V policy sh) states run f.p j a (length done + length rs - 1) (done ++ rs)) where
  at_first : (done ≡ f.entry.done) × (rs ≡ f.x ∷ f.rest)
  at_first = same_parts done rs f.entry.done (f.x ∷ f.rest) (sym f.place) f.parts

  at_last : g.entry.done ++ g.x ∷ [] ≡ f.entry.done ++ rs
  at_last =
      let sum : length (done ++ rs) ≡ length g.entry.done + suc (length g.rest) = ap length g.parts ∙ length-append g.entry.done (g.x ∷ g.rest) in
      let none : g.rest ≡ [] = no_more g.rest (omega (arith, sum, length-append done rs, g.place, ap length at_first.1)) in
      ap (λ (z : List Reading). g.entry.done ++ g.x ∷ z) (sym none) ∙ (sym g.parts ∙ ap (λ (z : List Reading). z ++ rs) at_first.0)

  looks : IsShape sh → k < 2 ^ 64 → IsLookup V sh k tries rs reply → LooksBetween V sh states run i j a k tries done rs reply
  looks shape small looked =
      let acts : ℕ → List Made = λ n. (run.ruled n).log in
      let whole : IsLookedUp V sh k tries (acts f.p) (acts g.p) reply = record {
        policy = policy;
        rs = rs;
        looked = looked;
        s = states f.p;
        t = states (suc f.p);
        first = f.x;
        more = f.rest;
        from = at_first.1;
        begins = f.entry;
        s' = states g.p;
        t' = states (suc g.p);
        last = g.x;
        ends = g.entry;
        whole = at_last;
        later = front_between (layout_with V policy sh) states run f.p g.p g.from;
      } in
      let true' = lookups_are_in_time V sh k tries (acts f.p) (acts g.p) reply shape small whole in
      record {
        first = f.p;
        last = g.p;
        begins = f.from;
        in_order = g.from;
        ends = g.until;
        looked = whole;
        is = (refl, f.number, sym at_first.0);
        first_step = (refl, refl);
        last_step = (refl, refl);
        timed = record { truth = true'.0; between = true'.1; held = holds_between V sh states run k f.p g.p reply g.from true'.0 true'.1 };
      }

pub lookups_are_timed : (V : ℕ) → LookupsAreTimed V
lookups_are_timed V policy sh states run i j a k tries done rs reply shape small some' le h h' looked =
    let l : Layout = layout_with V policy sh in
    let long : length (done ++ rs) ≡ length done + length rs = length-append done rs in
    let more = starts V sh k tries rs reply some' looked in
    let f = entry_between l states run i j (length done) a done (done ++ rs) le h h' (omega arith) (omega (arith, long, more)) in
    let g = entry_between l states run f.p j (length done + length rs - 1) a f.entry.done (done ++ rs) (omega (arith, f.until)) (record_there l states run i j a (length done) (done ++ rs) f) h' (omega (arith, f.place, more)) (omega (arith, long, more)) in
    looks V sh states run i j a k tries done rs reply f g shape small looked

-- ---- calls of readers
pub gets_are_timed : (V : ℕ) → GetsAreTimed V
gets_are_timed V policy sh states run i j k before after reply shape small le h h' looked =
    let end : HasRecord before.number (states j) (before.done ++ looked.rs) = subst (λ (z : ℕ × List Reading). HasRecord z.0 (states j) z.1) (λ n. (looked.number n, looked.done n)) h' in
    let x = lookups_are_timed V policy sh states run i j before.number k sh.tries before.done looked.rs reply shape small (omega (arith, shape.tries.0)) le h end looked.looked in
    (x.first, x.last, x.begins, x.in_order, x.ends, x.timed)

-- lookups of many keys only add to the record
have_grown : (V : ℕ) (sh : Shape) (keys : List ℕ) (before after : ReaderRecord) (replies : List (Reply V)) → HaveLooked V sh keys before after replies → (after.number ≡ before.number) × ((ys : List Reading) × (after.done ≡ before.done ++ ys))
have_grown V sh [] before after [] h = (ap (λ (r : ReaderRecord). r.number) h, ([], ap (λ (r : ReaderRecord). r.done) h ∙ sym (append-nil before.done)))
have_grown V sh (k ∷ ks) before after (y ∷ ys) h =
    let more = have_grown V sh ks h.0 after ys h.2 in
    (more.0 ∙ h.1.number, (h.1.rs ++ more.1.0, more.1.1 ∙ (ap (λ (z : List Reading). z ++ more.1.0) h.1.done ∙ append_assoc before.done h.1.rs more.1.0)))
have_grown V sh [] before after (y ∷ ys) h = absurd h
have_grown V sh (k ∷ ks) before after [] h = absurd h

pub many_are_timed : (V : ℕ) → ManyAreTimed V
many_are_timed V policy sh states run i j [] before after [] shape small le h h' looked = tt
many_are_timed V policy sh states run i j (k ∷ ks) before after (y ∷ ys) shape small le h h' looked =
    let mid = looked.0 in
    let one = looked.1 in
    let more = have_grown V sh ks mid after ys looked.2 in
    let end : HasRecord before.number (states j) (before.done ++ one.rs ++ more.1.0) =
    subst (λ (z : ℕ × List Reading). HasRecord z.0 (states j) z.1) (λ n. ((more.0 ∙ one.number) n, (more.1.1 ∙ ap (λ (z : List Reading). z ++ more.1.0) one.done) n)) h' in
    let p = records_pass (layout_with V policy sh) states run i j before.number before.done one.rs more.1.0 le h end in
    let there : HasRecord mid.number (states p.0) mid.done = subst (λ (z : ℕ × List Reading). HasRecord z.0 (states p.0) z.1) (λ n. (sym one.number n, sym one.done n)) p.3 in (
      p.0,
      p.1,
      p.2,
      gets_are_timed V policy sh states run i p.0 k before mid y shape (small 0 k (omega arith)) p.1 h there one,
      many_are_timed V policy sh states run p.0 j ks mid after ys shape (λ n x at. small (suc n) x (omega (arith, at))) p.2 there h' looked.2,
    )
many_are_timed V policy sh states run i j [] before after (y ∷ ys) shape small le h h' looked = absurd looked
many_are_timed V policy sh states run i j (k ∷ ks) before after [] shape small le h h' looked = absurd looked

-- ---- calls with the writer at hand
-- what the map holds now is a true answer
now_true : {V : ℕ} (h : List (Change V)) (k : ℕ) (reply : Reply V) → HoldsNow h k reply → IsTrueAnswer h k reply
now_true h k (Found v at since) x = (omega (arith, x.1), ap (λ (z : List (Change _)). map_value z k) ((λ i. take (x.1 i) h) ∙ take-length h) ∙ x.0)
now_true h k (Absent at) x = (omega (arith, x.1), ap (λ (z : List (Change _)). map_value z k) ((λ i. take (x.1 i) h) ∙ take-length h) ∙ x.0)
now_true h k Busy x = tt

module _ (V : ℕ) {policy : Policy} (sh : Shape) (states : ℕ → TableState) (run : IsExecution (layout_with V policy sh) states) where
  pub now_timed : (n k : ℕ) (h : List (Change V)) (reply : Reply V) → history_at V sh states run n ≡ h → HoldsNow h k reply → IsTimed V sh states run k reply n n
  now_timed n k h reply same now = by_reply reply (subst (λ (z : List (Change V)). HoldsNow z k reply) (sym same) now)
    where
      by_reply : (y : Reply V) → HoldsNow (history_at V sh states run n) k y → IsTimed V sh states run k y n n
      by_reply (Found v at since) x = record { truth = now_true _ k (Found v at since) x; between = (omega (arith, x.1), omega (arith, x.1)); held = (n, omega arith, omega arith, x) }
      by_reply (Absent at) x = record { truth = now_true _ k (Absent at) x; between = (omega (arith, x.1), omega (arith, x.1)); held = (n, omega arith, omega arith, x) }
      by_reply Busy x = record { truth = tt; between = tt; held = (n, omega arith, omega arith, tt) }

  -- no change is made between states with the same history
  pub still : (i j n : ℕ) (h : List (Change V)) → history_at V sh states run i ≡ h → history_at V sh states run j ≡ h → i ≤ n → n ≤ j → history_at V sh states run n ≡ h
  still i j n h a b le le' =
      let one = begins_all V sh ((run.ruled i).log) ((run.ruled n).log) (front_between (layout_with V policy sh) states run i n le) in
      let most = many_rise V sh states run n j le' in
      let none : one.0 ≡ [] = empty one.0 (omega (arith, most, ap length a, ap length b, ap length one.1, length-append (history_at V sh states run i) one.0)) in
      one.1 ∙ (ap (λ (z : List (Change V)). history_at V sh states run i ++ z) none ∙ (append-nil (history_at V sh states run i) ∙ a))
    where
      empty : (xs : List (Change V)) → length xs ≡ 0 → xs ≡ []
      empty [] e = refl
      empty (x ∷ xs) e = absurd (omega (arith, e))

  pub history_of : (n : ℕ) (acts : List Made) → HasActs (states n) acts → history_at V sh states run n ≡ (state_of V sh acts).history
  history_of n acts h = ap (λ (z : List Made). (state_of V sh z).history) (acts_are (layout_with V policy sh) states run n acts h)

-- what a reply that the writer's state gives says of the map
pub replies_hold : {A : Type 0} (V : ℕ) (sh : Shape) (k : ℕ) (s : State V) (mark : ℕ → A) (done done' : List A) (reply : Reply V) → RepliesNow V sh k s mark done done' reply → HoldsNow s.history k reply
replies_hold V sh k s mark done done' (Found v at since) x = (x.0, x.1)
replies_hold V sh k s mark done done' (Absent at) x = (x.0, x.1)
replies_hold V sh k s mark done done' Busy x = absurd x

-- and what it makes of the writer's acts leaves the history
replies_keep : (V : ℕ) (sh : Shape) (k : ℕ) (acts acts' : List Made) (reply : Reply V) → RepliesNow V sh k (state_of V sh acts) (λ i. with_bit (Mark i) 0) acts acts' reply → (state_of V sh acts').history ≡ (state_of V sh acts).history
replies_keep V sh k acts acts' (Found v at since) x = ap (λ (z : List Made). (state_of V sh z).history) x.2.3 ∙ ap (λ (z : State V). z.history) (state_push V sh acts (with_bit (Mark x.2.1) 0))
replies_keep V sh k acts acts' (Absent at) x = ap (λ (z : List Made). (state_of V sh z).history) x.2
replies_keep V sh k acts acts' Busy x = absurd x

pub writers_gets_are_timed : (V : ℕ) → WritersGetsAreTimed V
writers_gets_are_timed V policy sh states run i j k before after reply h h' got n le le' =
    let was = history_of V sh states run i before.acts h in
    let is = history_of V sh states run j after.acts h' ∙ replies_keep V sh k before.acts after.acts reply got.replies in
    now_timed V sh states run n k _ reply (still V sh states run i j n _ was is le le') (replies_hold V sh k (state_of V sh before.acts) (λ i. with_bit (Mark i) 0) before.acts after.acts reply got.replies)

pub beside_is_timed : (V : ℕ) → BesideIsTimed V
beside_is_timed V policy sh states run i j k acts before after reply h h' looked n le le' =
    now_timed V sh states run n k _ reply (still V sh states run i j n _ (history_of V sh states run i acts h) (history_of V sh states run j acts h') le le') (replies_hold V sh k (state_of V sh acts) (λ i. mark_at i acts) before.done after.done reply looked.replies)
