use Rattle.std.proofs.Common.{ℕ, ◌≡◌, ◌-◌, ◌^◌, ◌<◌, ◌≤◌, List, length, subst, ap, arith}
use Rattle.std.specs.Prelude.{slice_index}
use Rattle.mc_words.specs.Places.{all_words, word_count}
use Rattle.mc_words.specs.Recency.{recency_words}
use Rattle.mc_core.specs.Packed.{HasBits}
use Rattle.mc_core.specs.Inside.Packed.{IsPacked}
use Rattle.mc_core.specs.Inside.Parts.{view_of}
use Rattle.mc_core.specs.Seen.{WorldView}
use Rattle.mc_core.specs.declared.parts.Parts.{Parts}
use Rattle.mc_core.proofs.PackedBits.{bits_now, packed_bits}
use Rattle.mc_core.proofs.world.World.word.Goals as goal

-- the words with the bits follow the words of the table, and are few
few : {V : ℕ} (p : Parts V) (shown : WorldView V) (n len : ℕ) → view_of {V = V} p ≡ shown → n < all_words V shown.shape → len ≡ length p.writer.table.words.items → n - len < 2 ^ 32
unfolding recency_words
few {V} p shown n len view below is =
    let shape = ap (λ (s : WorldView V). s.shape) view in
    let all = rw (← shape) at below in
    omega (arith, all, is, p.writer.table.size, p.writer.table.checked.sound.buckets, p.writer.table.checked.sound.items)

pub recency_word-requires : goal.recency_word-requires
recency_word-requires g c =
    let p = c.self.inside.parts in
    few p c.args.self.now c.args.n c.len-else-n-len.result c.self.view_is c.requires (omega (arith, c.len-else-n-len.ensures, p.writer.table.words.ok.0))

pub returns-else-n-len-clause-bits : goal.returns-else-n-len-clause-bits
returns-else-n-len-clause-bits g c =
    let V = g.row.V in
    let p = c.self.inside.parts in
    let is = c.self.invariant in
    let known = bits_now V (view_of {V = V} p) is.seen is.stand.shows is.reached in
    let len : c.len-else-n-len.result ≡ word_count V p.writer.table.checked.shape = omega (arith, c.len-else-n-len.ensures, p.writer.table.words.ok.0, p.writer.table.size) in
    let packed = subst (λ (y : List ℕ × ℕ). IsPacked y.0 (c.args.n - y.1) c.recency_word.result) (λ i. (c.deref.ensures.value i, len i)) c.recency_word.ensures in
    subst (λ (now : WorldView V). word_count V now.shape ≤ c.args.n → HasBits V now.shape now.bits c.args.n c.recency_word.result) c.self.view_is
    (λ past. packed_bits V p.writer.table.checked.shape p.bits.items c.args.n c.recency_word.result known.0 known.1 past packed)

pub index-requires : goal.index-requires
index-requires g c = omega (arith, c.if-n-len.true, c.len.ensures)

pub overflow_sub-n : goal.overflow_sub-n
overflow_sub-n g c = omega (arith, c.if-n-len.false, c.len.ensures, c.len-else-n-len.ensures)

pub returns-then-n-len-clause-bits : goal.returns-then-n-len-clause-bits
returns-then-n-len-clause-bits g c =
    let V = g.row.V in
    let t = c.self.inside.parts.writer.table in
    subst (λ (now : WorldView V). word_count V now.shape ≤ c.args.n → HasBits V now.shape now.bits c.args.n c.index.result.now) c.self.view_is
    (λ past. absurd (omega (arith, past, c.if-n-len.true, c.len.ensures, t.words.ok.0, t.size)))

pub returns-else-n-len-clause-words : goal.returns-else-n-len-clause-words
returns-else-n-len-clause-words g c =
    let V = g.row.V in
    let t = c.self.inside.parts.writer.table in
    subst (λ (now : WorldView V). c.args.n < word_count V now.shape → c.recency_word.result ≡ slice_index now.state.words c.args.n) c.self.view_is
    (λ below. absurd (omega (arith, below, c.if-n-len.false, c.len.ensures, t.words.ok.0, t.size)))
