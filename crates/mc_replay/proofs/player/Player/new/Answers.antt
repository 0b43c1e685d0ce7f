use Rattle.std.proofs.Common.{◌≡◌, sym, subst, ap, ◌∙◌, [], refl, arith}
use Rattle.mc_theory.proofs.Lists.Fronts.{state_none}
use Rattle.mc_theory.specs.Lists.{state_of}
use Rattle.mc_theory.specs.States.{opening}
use Rattle.mc_theory.specs.Traces.{IsReached, first_trace}
use Rattle.mc_plan.specs.Clerks.{Knows}
use Rattle.mc_words.specs.Checks.{shape_of}
use Rattle.mc_words.specs.declared.shape.Shape.{Shape}
use Rattle.mc_replay.proofs.ReaderLines.{readers_of}
use Rattle.mc_replay.proofs.ScriptLines.{no_readers, some_readers}
use Rattle.mc_replay.proofs.player.Player.new.Goals as goal

pub returns-in-Ok-new-clause-fits : goal.returns-in-Ok-new-clause-fits
returns-in-Ok-new-clause-fits g c =
    let sh : Shape = shape_of c.args.checked.now in
    let first : opening g.row.V sh ≡ state_of g.row.V c.in-Ok.world.shape [] = sym (state_none g.row.V sh) ∙ ap (λ (y : Shape). state_of g.row.V y []) (sym c.in-Ok.ensures.ok.0) in
    record {
      at = record {
        world = c.in-Ok.ensures.ok.1;
        reached = subst (λ (y : Shape). IsReached g.row.V y (first_trace g.row.V sh c.args.readers)) (sym c.in-Ok.ensures.ok.0) (record { readers = c.args.readers; events = []; runs = refl });
        shape = c.in-Ok-new.ensures.shape ∙ sym c.in-Ok.ensures.ok.0;
        readers = readers_of g.row.V c.in-Ok.world _ c.in-Ok.ensures.ok.1;
        events = omega arith;
      };
      knows = subst (Knows g.row.V c.in-Ok-new.clerk) first c.in-Ok-new.ensures.knows;
    }

pub new-requires : goal.new-requires
new-requires g c = (omega arith, c.requires)

pub returns-in-Err-Readers-clause-fits : goal.returns-in-Err-Readers-clause-fits
returns-in-Err-Readers-clause-fits g c = tt

pub returns-in-Err-Readers-clause-shape : goal.returns-in-Err-Readers-clause-shape
returns-in-Err-Readers-clause-shape g c = tt

pub returns-in-Err-Readers-clause-readers : goal.returns-in-Err-Readers-clause-readers
returns-in-Err-Readers-clause-readers g c = tt

pub returns-in-Err-Readers-clause-refused : goal.returns-in-Err-Readers-clause-refused
returns-in-Err-Readers-clause-refused g c = no_readers c.args.readers c.in-Err-Readers.ensures.readers (cc (c.in-Err-Readers.field-0-is))

pub returns-in-Err-NoMemory-clause-fits : goal.returns-in-Err-NoMemory-clause-fits
returns-in-Err-NoMemory-clause-fits g c = tt

pub returns-in-Err-NoMemory-clause-shape : goal.returns-in-Err-NoMemory-clause-shape
returns-in-Err-NoMemory-clause-shape g c = tt

pub returns-in-Err-NoMemory-clause-readers : goal.returns-in-Err-NoMemory-clause-readers
returns-in-Err-NoMemory-clause-readers g c = tt

pub returns-in-Err-NoMemory-clause-refused : goal.returns-in-Err-NoMemory-clause-refused
returns-in-Err-NoMemory-clause-refused g c = some_readers c.args.readers c.in-Err-NoMemory.ensures.readers (λ readers. absurd (cc (readers, c.in-Err-NoMemory.field-0-is)))

pub new-requires-2 : goal.new-requires-2
new-requires-2 g c = (omega arith, c.requires)

pub returns-in-Ok-new-clause-shape : goal.returns-in-Ok-new-clause-shape
returns-in-Ok-new-clause-shape g c = c.in-Ok.ensures.ok.0

pub returns-in-Ok-new-clause-readers : goal.returns-in-Ok-new-clause-readers
returns-in-Ok-new-clause-readers g c = some_readers c.args.readers c.in-Ok.ensures.readers (λ readers. absurd (cc (readers)))

pub returns-in-Ok-new-clause-refused : goal.returns-in-Ok-new-clause-refused
returns-in-Ok-new-clause-refused g c = tt

pub returns-in-Err-clause-fits : goal.returns-in-Err-clause-fits
returns-in-Err-clause-fits g c = tt

pub returns-in-Err-clause-shape : goal.returns-in-Err-clause-shape
returns-in-Err-clause-shape g c = tt

pub returns-in-Err-clause-readers : goal.returns-in-Err-clause-readers
returns-in-Err-clause-readers g c = tt

pub returns-in-Err-clause-refused : goal.returns-in-Err-clause-refused
returns-in-Err-clause-refused g c = some_readers c.args.readers c.in-Ok.ensures.readers (λ readers. absurd (cc (readers)))
