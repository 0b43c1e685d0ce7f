use Rattle.std.proofs.Common.{◌/◌, ◌<◌, ◌≤◌, length, arith}
use Rattle.mc_search.proofs.ItemBits.{none_left, none_more, none_rest, one_found}
use Rattle.mc_search.proofs.item_set.ItemSet.next_from.Goals as goal

pub returns-in-Some : goal.returns-in-Some
returns-in-Some c =
    let ws = c.args.self.now.words.items in
    let inside : c.args.from / 64 < length ws = omega (arith, c.requires.kept.size, c.requires.in_items) in
    one_found ws (c.args.from / 64) c.in-Some.bit c.index.result.now c.index.ensures inside c.in-Some.ensures.0 (c.bits_from.ensures.set c.in-Some.bit c.in-Some.ensures.1)

pub words-init : goal.words-init
words-init c j after below =
    let ws = c.args.self.now.words.items in
    let inside : c.args.from / 64 < length ws = omega (arith, c.requires.kept.size, c.requires.in_items) in
    none_rest ws c.args.from c.bits_from.result c.index.result.now j c.index.ensures inside c.in_default.ensures c.bits_from.ensures.same after below

pub returns-in-Some-lowest : goal.returns-in-Some-lowest
returns-in-Some-lowest c =
    let ws = c.args.self.now.words.items in
    let inside : c.words.next < length ws = omega (arith, c.requires.kept.size, c.words-test.true) in
    one_found ws c.words.next c.in-Some-lowest.bit c.index-in-words.result.now c.index-in-words.ensures inside c.in-Some-lowest.ensures.0 c.in-Some-lowest.ensures.1

pub words-preserved : goal.words-preserved
words-preserved c =
    let ws = c.args.self.now.words.items in
    let inside : c.words.next < length ws = omega (arith, c.requires.kept.size, c.words-test.true) in
    none_more ws c.args.from c.words.next c.index-in-words.result.now c.index-in-words.ensures inside c.in_default-lowest.ensures c.words.invariant

pub returns : goal.returns
returns c =
    let ws = c.args.self.now.words.items in
    let past : length ws ≤ c.words.next = omega (arith, c.requires.kept.size, c.words-test.false) in
    none_left ws c.args.from c.words.next past c.words.invariant
