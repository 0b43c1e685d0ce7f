use Rattle.std.proofs.Common.{◌-◌, ◌/◌, ◌<◌, rules}
use Rattle.mc_words.proofs.SlotWords.{parts-named}
use Rattle.mc_words.proofs.checked.Checked.tag_in.Goals as goal

pub overflow_sub-result : goal.overflow_sub-result
overflow_sub-result c = (parts-named c.args.self.now.shape c.args.word c.args.self.now.sound c.requires).0

pub overflow_cast-result : goal.overflow_cast-result
overflow_cast-result c =
    let small : (c.args.word - 1) / 4294967296 < 256 = (parts-named c.args.self.now.shape c.args.word c.args.self.now.sound c.requires).1 in
    search rules
