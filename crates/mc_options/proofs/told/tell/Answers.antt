use Rattle.std.proofs.Common.{◌∙◌, rules}
use Rattle.mc_options.specs.Streams.{stream}
use Rattle.mc_options.proofs.ToldLines.{told}
use Rattle.mc_options.proofs.told.tell.Goals as goal

pub returns-then-is_ok : goal.returns-then-is_ok
returns-then-is_ok g c =
    told (g.D.Display.output c.args.what) c.new-line.result c.writeln.new.self (stream (g.E.Write.contents c.args.errors.now) (g.E.Write.contents c.send.new.to)) _ c.send.result.0
    c.new-line.ensures.text c.new-line.ensures.intact (search rules) (c.as_bytes.ensures.value ∙ c.as_str.ensures.value) c.send.ensures.taken
