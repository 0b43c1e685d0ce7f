use Rattle.std.proofs.Common.{ℕ, List, [], ◌≡◌, ◌∷◌, ◌∙◌, ap, arith, length, refl, subst, sym}
use Rattle.std.specs.Prelude.{replicate}
use Rattle.std.proofs.lemmas.List.{get_or-replicate, length-replicate, map-append}
use Rattle.mc_words.specs.declared.shape.Shape.{Shape}
use Rattle.mc_check.specs.declared.record.Record.{Record}
use Rattle.mc_shards.specs.Sharded.{Sharded}
use Rattle.mc_load.specs.Inside.Handles.{place_of}
use Rattle.mc_load.specs.Inside.Lasts.{AreLasts}
use Rattle.mc_load.specs.ShardLoads.{HasAsked}
use Rattle.mc_load.specs.Inside.Workers.{HaveAllNoted, answers_of}
use Rattle.mc_load.specs.declared.reader_thread.ReaderThread.{ReaderThread}
use Rattle.mc_load.proofs.Each.{each_front, each_last, each_more}
use Rattle.mc_load.proofs.LastMoments.{lasts_none}
use Rattle.mc_load.proofs.lasts.last_moments.Goals as goal

pub returns-clause-noted : goal.returns-clause-noted
returns-clause-noted g c =
    let V = g.row.V in
    let load = c.args.load in
    let xs = c.args.reader_threads.now.items in
    let rest = c.pop.new.self.items in
    let e = c.in-Some.ensures.items in
    subst (HaveAllNoted load) (sym c.push_reserved.ensures.items)
    (each_more (λ n (l : ReaderThread V). HasAsked load n l.records.items) rest _ (each_front (λ n (l : ReaderThread V). HasAsked load n l.records.items) xs rest c.in-Some.thread e c.requires.noted)
    (each_last (λ n (l : ReaderThread V). HasAsked load n l.records.items) xs rest c.in-Some.thread e c.requires.noted))

pub returns-clause-answers : goal.returns-clause-answers
returns-clause-answers g c =
    let V = g.row.V in
    let rest = c.pop.new.self.items in
    let thread = c.in-Some.thread in
    let records : ReaderThread V → List (Record V) = λ (l : ReaderThread V). l.records.items in
    ap (λ (ls : List (ReaderThread V)). answers_of ls) c.push_reserved.ensures.items
    ∙ (map-append records rest (_ ∷ []) ∙ (sym (map-append records rest (thread ∷ [])) ∙ ap (λ (ls : List (ReaderThread V)). answers_of ls) (sym c.in-Some.ensures.items)))

pub loop-n-preserved : goal.loop-n-preserved
loop-n-preserved g c =
    let V = g.row.V in
    let was = c.loop-n.invariant in
    let mix = c.args.load.shape.mix in
    record {
      place = c.note_lasts.ensures.place ∙ was.place;
      lasts = λ s shape many of.
          let here = was.place ∙ of in
          subst (λ (p : Sharded). AreLasts V p mix c.args.shards c.note_lasts.new.lasts) here
          (c.note_lasts.ensures.lasts (subst (λ (p : Sharded). AreLasts V p mix c.args.shards c.loop-n.lasts) (sym here) (was.lasts s shape many of)));
    }

pub returns-clause-lasts : goal.returns-clause-lasts
returns-clause-lasts g c = λ s shape many in_s.
    c.loop-n.invariant.lasts s shape many (each_last (λ k (l : ReaderThread g.row.V). place_of l.handle ≡ s) c.args.reader_threads.now.items c.pop.new.self.items c.in-Some.thread c.in-Some.ensures.items in_s)

-- no moment yet
zeros : (V : ℕ) (s : Sharded) (sh : Shape) (shards : ℕ) → s.shape ≡ sh → length s.tables ≡ shards → AreLasts V s sh.mix shards (replicate 256 0)
zeros V s sh shards shape many = lasts_none V s sh.mix shards (replicate 256 0) (ap (λ (x : Shape). x.mix) shape) many (λ n low. get_or-replicate 256 n 0 0 (omega (arith, low, length-replicate {A = ℕ} 256 0)))

pub returns-in_default-clause-lasts : goal.returns-in_default-clause-lasts
returns-in_default-clause-lasts g c = λ s shape many in_s. zeros g.row.V s c.args.load.shape c.args.shards shape many

pub loop-n-init : goal.loop-n-init
loop-n-init g c = record { place = refl; lasts = λ s shape many of. zeros g.row.V s c.args.load.shape c.args.shards shape many }
