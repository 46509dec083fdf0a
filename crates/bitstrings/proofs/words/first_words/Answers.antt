use Rattle.std.proofs.Common.{◌≡◌, ℕ, ◌+◌, ◌*◌, ◌<◌, length, get_or, subst, sym, ap, ◌∙◌, arith}
use Rattle.std.proofs.Math.ListN.{length-set, set}
use Rattle.std.proofs.lemmas.List.Edits.{fill_by_more}
use Rattle.std.proofs.lemmas.List.FromFn.{fill_by_all}
use Rattle.rand_pcg.specs.Pcg.{pcg32}
use Rattle.bitstrings.specs.Stream.{bit_of, first_words, stream_of, stream_word}
use Rattle.bitstrings.proofs.Drawing.{advance_last}
use Rattle.bitstrings.proofs.words.first_words.Goals as goal

pub loop-l-preserved : goal.loop-l-preserved
loop-l-preserved c =
    let l = c.loop-l.l in
    let words = c.loop-l.words in
    let base = 32 * c.args.node in
    let drawn : ℕ → ℕ = λ k. bit_of (stream_word c.args.seed (base + k)) in
    let word : c.bit_of.result ≡ drawn l = c.bit_of.ensures ∙ ap (λ p. bit_of p.0) c.next_word.ensures ∙ ap (λ g. bit_of (pcg32 g).0) c.loop-l.invariant.at in
    let lt : l < length words = omega (arith, c.loop-l.invariant.long) in record {
      long = length-set words l c.bit_of.result ∙ c.loop-l.invariant.long;
      at =
          ap (λ p. p.1) c.next_word.ensures ∙ ap (λ g. (pcg32 g).1) c.loop-l.invariant.at
          ∙ advance_last (base + l) (base + (l + 1)) (stream_of c.args.seed) (omega arith);
      drawn = subst (λ w. (k : ℕ) → k < l + 1 → get_or (set words l w) k 0 ≡ drawn k) (sym word) (fill_by_more drawn words l 0 lt c.loop-l.invariant.drawn);
    }

pub returns : goal.returns
unfolding first_words
returns c =
    fill_by_all (λ k. bit_of (stream_word c.args.seed (32 * c.args.node + k))) c.loop-l.words 32 0 c.loop-l.invariant.long (λ k lt. c.loop-l.invariant.drawn k (omega arith))
