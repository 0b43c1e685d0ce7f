use Rattle.std.proofs.Common.{rules, ℕ, ◌≡◌, ◌+◌, ◌*◌, ◌%◌, IsTrue, ap, arith, subst, sym, ◌∙◌}
use Rattle.std.specs.Prelude.{replicate}
use Rattle.mc_words.specs.declared.shape.Shape.{Shape}
use Rattle.mc_plan.specs.WholeCalls.{Call}
use Rattle.mc_plan.specs.WholeCalls.Call.{PutCall, RemoveCall}
use Rattle.mc_writer.specs.WriterCalls.{HasCalled}
use Rattle.mc_load.specs.Draws.{drawn_call, drawn_key, drawn_word}
use Rattle.mc_load.specs.Drawn.{HasDrawn}
use Rattle.mc_load.proofs.Histories.{made_more, put_drawn, removal_drawn}
use Rattle.mc_load.proofs.writer_thread.WriterThread.make_call.Goals as goal

pub returns-then-is_removal-clause-written : goal.returns-then-is_removal-clause-written
returns-then-is_removal-clause-written g c load n place shape w =
    let V = g.row.V in
    let key = c.key-key.ensures.key load 0 (2 * n) w.drawn in
    let first = c.key-key.ensures.drawn load 0 (2 * n) w.drawn in
    let second = c.is_removal-is_removal.ensures.drawn load 0 (2 * n + 1) first in
    let yes : IsTrue c.is_removal-is_removal.result = search rules in
    let removal : drawn_word load 0 (2 * n + 1) % 8 ≡ 0 = (c.is_removal-is_removal.ensures.removal load 0 (2 * n + 1) first).0 yes in
    let called = c.remove.ensures.called in
    let count : 2 * n + 1 + 1 ≡ 2 * (n + 1) = omega arith in
    record {
      drawn = subst (HasDrawn load 0 (2 * (n + 1))) (sym c.remove.ensures.kept.0) (subst (λ (m : ℕ). HasDrawn load 0 m c.is_removal-is_removal.new.self) count second);
      made = made_more V load n c.args.self.now.writer c.remove.new.self.writer called.0 w.made
          (subst (λ (sh : Shape). HasCalled V sh (drawn_call V load n) c.args.self.now.writer c.remove.new.self.writer called.0) shape
          (subst (λ (call : Call). HasCalled V c.args.self.now.cache.now.layout.shape call c.args.self.now.writer c.remove.new.self.writer called.0) (ap RemoveCall key ∙ sym (removal_drawn V load 0 n (n + 1) removal)) called.1));
    }

pub returns-else-is_removal-clause-written : goal.returns-else-is_removal-clause-written
returns-else-is_removal-clause-written g c load n place shape w =
    let V = g.row.V in
    let key = c.key-key.ensures.key load 0 (2 * n) w.drawn in
    let first = c.key-key.ensures.drawn load 0 (2 * n) w.drawn in
    let second = c.is_removal-is_removal.ensures.drawn load 0 (2 * n + 1) first in
    let none : drawn_word load 0 (2 * n + 1) % 8 ≡ 0 → ⊥ = λ h. let yes : IsTrue c.is_removal-is_removal.result = (c.is_removal-is_removal.ensures.removal load 0 (2 * n + 1) first).1 h in search rules in
    let called = c.put.ensures.called in
    let count : 2 * n + 1 + 1 ≡ 2 * (n + 1) = omega arith in
    record {
      drawn = subst (HasDrawn load 0 (2 * (n + 1))) (sym c.put.ensures.kept.0) (subst (λ (m : ℕ). HasDrawn load 0 m c.is_removal-is_removal.new.self) count second);
      made = made_more V load n c.args.self.now.writer c.put.new.self.writer called.0 w.made
          (subst (λ (sh : Shape). HasCalled V sh (drawn_call V load n) c.args.self.now.writer c.put.new.self.writer called.0) shape
          (subst (λ (call : Call). HasCalled V c.args.self.now.cache.now.layout.shape call c.args.self.now.writer c.put.new.self.writer called.0)
          (ap (λ (k : ℕ). PutCall k (replicate V c.args.call)) key ∙ (ap (λ (v : ℕ). PutCall (drawn_key load 0 (2 * n)) (replicate V v)) place ∙ sym (put_drawn V load 0 n (n + 1) none))) called.1));
    }
