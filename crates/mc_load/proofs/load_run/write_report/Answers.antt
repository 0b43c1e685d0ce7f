use Rattle.std.proofs.Common.{[], ◌∙◌, Some, inl, inr, refl, rules}
use Rattle.mc_load.specs.Told.{text_of}
use Rattle.mc_options.specs.Streams.{stream}
use Rattle.mc_options.proofs.ToldLines.{told, written}
use Rattle.mc_load.proofs.load_run.write_report.Goals as goal

pub returns-then-all : goal.returns-then-all
returns-then-all g c = (
  [],
  (λ same. refl),
  inl (
    refl,
    written (text_of c.args.told) c.new-lines.result c.writeln.new.self (stream (g.W.Write.contents c.args.output.now) (g.W.Write.contents c.send-all.new.to)) _ c.send-all.result.0
        c.new-lines.ensures.text c.new-lines.ensures.intact (search rules) (c.as_bytes.ensures.value ∙ c.as_str.ensures.value) c.send-all.ensures.taken (c.send-all.ensures.all c.if-all.true),
  ),
)

pub returns-else-all : goal.returns-else-all
returns-else-all g c = (
  [],
  (λ same. refl),
  inr (
    refl,
    told (Some (text_of c.args.told)) c.new-lines.result c.writeln.new.self (stream (g.W.Write.contents c.args.output.now) (g.W.Write.contents c.send-all.new.to)) _ c.send-all.result.0
        c.new-lines.ensures.text c.new-lines.ensures.intact (search rules) (c.as_bytes.ensures.value ∙ c.as_str.ensures.value) c.send-all.ensures.taken,
  ),
)
