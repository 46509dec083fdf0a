use Rattle.std.proofs.Common.{◌≡◌, ◌∙◌, ◌+◌, ◌*◌, get_or, arith, rules}
use Rattle.peg_text.specs.Pairs.{key_of}
use Rattle.pairs.proofs.PrefixLemmas.{room, key_goes_on, key_is_over, number_more, fits_more}
use Rattle.pairs.proofs.prefix.measured_key.Goals as goal
use Rattle.pairs.proofs.prefix.measured_key.Goals.{then-length-at+then-byte-ne9, else-length-at, else-length-at-via-then-length-at+else-byte-ne9, else-length-at-via-else-length-at}

pub overflow_mul-number-else-length-at : goal.overflow_mul-number-else-length-at
overflow_mul-number-else-length-at c = let most = room c.loop-at.at c.loop-at.number c.loop-at-test.true c.loop-at.invariant.fits in omega (arith, most)

pub loop-at-preserved : goal.loop-at-preserved
loop-at-preserved c =
    let line = c.args.line.now in
    let at = c.loop-at.at in
    let byte = c.unwrap_or-byte.result in
    let is_byte : byte ≡ get_or line at 9 = search rules in
    let inv = c.loop-at.invariant in
    elim c.if-length-at.branch [
      | then-length-at+then-byte-ne9 w ↦
          let on = key_goes_on line at c.loop-at.length byte inv.length_is w.if-length-at.true is_byte w.if-byte-ne9.true in
          let next : c.if-length-at.number ≡ c.loop-at.number * 256 + byte = search rules in
          record {
            length_is = w.length-is ∙ on.1;
            number_is = number_more (key_of line) at c.loop-at.number byte c.if-length-at.number inv.number_is inv.fits on.0 c.unwrap_or-byte.type_inv next;
            fits = fits_more (key_of line) at c.loop-at.number byte c.if-length-at.number inv.number_is inv.fits on.0 c.unwrap_or-byte.type_inv next;
          }
      | else-length-at w ↦
          let closed : c.loop-at.length ≡ at → byte ≡ 9 = λ same. elim w.else-length-at.branch [
            | else-length-at-via-then-length-at+else-byte-ne9 v ↦ v.if-byte-ne9.false
            | else-length-at-via-else-length-at v ↦ absurd (v.if-length-at.false same)
          ] in
          let over = key_is_over line at c.loop-at.length byte inv.length_is is_byte closed in
          let next : c.if-length-at.number ≡ c.loop-at.number * 256 + 0 = omega (arith, w.number-is) in
          record {
            length_is = w.length-is ∙ over.1;
            number_is = number_more (key_of line) at c.loop-at.number 0 c.if-length-at.number inv.number_is inv.fits over.0 (omega arith) next;
            fits = fits_more (key_of line) at c.loop-at.number 0 c.if-length-at.number inv.number_is inv.fits over.0 (omega arith) next;
          }
    ]
