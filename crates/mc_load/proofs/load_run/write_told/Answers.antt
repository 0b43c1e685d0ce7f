use Rattle.std.proofs.Common.{rules, ◌≡◌, true, refl}
use Rattle.mc_load.specs.Told.{text_of}
use Rattle.mc_options.specs.Streams.{stream}
use Rattle.mc_load.proofs.WrittenLines.{lines_more, lines_told}
use Rattle.mc_load.proofs.load_run.write_told.Goals as goal

pub returns-in-Some : goal.returns-in-Some
returns-in-Some g c =
    let before = g.W.Write.contents c.args.output.now in
    let after = g.W.Write.contents c.write_histogram.new.output in
    let text = text_of c.args.told in
    let zero : c.write_report-status.result ≡ 0 = search rules in
    let asked : c.args.options.histogram ≡ true = search rules in
    lines_told (stream before after) text text c.write_histogram.result c.args.options.histogram asked refl
    (lines_more before _ after text c.write_report-status.result c.write_histogram.result c.write_report-status.ensures zero c.write_histogram.ensures)
