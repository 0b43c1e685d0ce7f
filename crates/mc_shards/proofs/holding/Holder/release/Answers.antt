use Rattle.std.proofs.Common.{◌∙◌, List, ap, arith, subst, sym}
use Rattle.mc_shards.proofs.HeldTurns.{has_taken}
use Rattle.mc_shards.proofs.LoadedShards.{seen_all}
use Rattle.mc_shards.specs.Holding.{Holding, histories}
use Rattle.mc_shards.specs.Inside.Held.{HaveTaken}
use Rattle.mc_shards.specs.Loadings.{HaveMet}
use Rattle.mc_shards.specs.Plain.{AllBegin, seens}
use Rattle.mc_shards.specs.declared.lending.Turn.{Turn}
use Rattle.mc_shards.proofs.holding.Holder.release.Goals as goal

pub give_all-requires : goal.give_all-requires
give_all-requires g c =
    let V = g.row.V in
    let locks = c.args.shards.now.locks in (
      omega arith,
      (
        omega arith,
        subst (λ (ts : List (Turn V)). HaveTaken V locks ts) (sym c.meet.ensures.turns.0) (has_taken V locks c.self.inside.turns.items (ap (λ (h : Holding). h.locks) c.self.view_is ∙ c.requires.of.locks) c.self.invariant.0),
      ),
    )

pub returns-clause-plain : goal.returns-clause-plain
returns-clause-plain g c =
    let V = g.row.V in
    let h = c.args.self in (
      subst (λ (x : Holding). AllBegin (seens V x.readers) (histories V x)) c.self.view_is c.meet.ensures.begins,
      seen_all V c.meet.new.readers.items h.writers (c.meet.ensures.readers ∙ sym c.requires.of.writers) (subst (λ (x : Holding). HaveMet x.writers c.meet.new.readers.items) c.self.view_is c.meet.ensures.met),
    )
