-- What lines are taken out of bytes as pairs.
use Rattle.std.proofs.Common.{◌≡◌, ◌≢◌, ◌∙◌, ap, sym, ℕ, ◌+◌, ◌-◌, ◌<◌, ◌≤◌, List, [], ◌∷◌, ◌++◌, get_or, map, length, take, drop, length-take, arith}
use Rattle.std.specs.List.{position_or_len}
use Rattle.std.proofs.lemmas.Bool.{false≢true}
use Rattle.std.proofs.lemmas.List.{get_or-drop, get_or-take, length-drop, take_rest}
use Rattle.std.proofs.lemmas.List.Elements.{All-take, All-drop}
use Rattle.std.proofs.lemmas.List.Sums.{fails_before_first}
use Rattle.peg_text.specs.Cursor.{IsSearched}
use Rattle.peg_text.specs.Pairs.{key_of, is_tab, HasNoTab}
use Rattle.peg_text.specs.Records.{HasNoLf, BeginsWithRecord}
use Rattle.peg_text.proofs.CursorLemmas.{unended-some}
use Rattle.peg_text.proofs.RecordLemmas.{records_of-unbroken, takes_first_record}
use Rattle.pairs.specs.Pairs.{Pair, IsPlain, pair_of, pairs_in}
use Rattle.pairs.specs.Taking.{TakesFirstPair, line_of}

-- the bytes that no line was taken from are searched as far as before
pub searched_behind : (bytes left : List ℕ) (next searched : ℕ) → IsSearched bytes next searched → left ≡ drop next bytes → IsSearched left 0 (searched - next)
searched_behind bytes left next searched scan is =
    let low = scan.ordered in
    let high = scan.inside in
    let len = ap length is ∙ length-drop next bytes in record {
      ordered = omega arith;
      inside = omega (arith, len, low, high);
      unbroken = λ k from below there.
          scan.unbroken (next + k) (omega arith) (omega (arith, low, below)) (sym (get_or-drop next bytes k 0) ∙ ap (λ (l : List ℕ). get_or l k 0) (sym is) ∙ there);
    }

-- a line with its LF in front
pub takes_first_pair : (bytes line left : List ℕ) (pair : Pair) → BeginsWithRecord bytes line left → pair ≡ pair_of line → TakesFirstPair bytes pair left
takes_first_pair bytes line left pair begins is = λ more.
    ap (map pair_of) (takes_first_record bytes line left begins more) ∙ ap (λ (p : Pair). p ∷ pairs_in (left ++ more)) (sym is)

-- all that is held is the last line
pub last_line : (bytes rest : List ℕ) (next end : ℕ) → drop next bytes ≡ rest → length bytes ≡ end → line_of bytes next end ≡ rest
last_line bytes rest next end view long =
    ap (λ (n : ℕ). take (n - next) (drop next bytes)) (sym long) ∙ take_rest bytes next ∙ view

pub last_pair : (bytes rest : List ℕ) (next end : ℕ) (pair : Pair) → drop next bytes ≡ rest → length bytes ≡ end → next ≤ end → next ≢ end → HasNoLf rest → pair ≡ pair_of (line_of bytes next end) → pairs_in rest ≡ pair ∷ []
last_pair bytes rest next end pair view long low some unbroken is =
    let len = ap length (sym view) ∙ length-drop next bytes in
    let more : 0 < length rest = omega (arith, len, long, low, some) in
    let line : line_of bytes next end ≡ rest = last_line bytes rest next end view long in
    ap (map pair_of) (records_of-unbroken rest unbroken ∙ unended-some rest more) ∙ ap (λ (p : Pair). p ∷ []) (sym (is ∙ ap pair_of line))

-- ---- the pair of a line

no_tab_before : (line : List ℕ) → HasNoTab (key_of line)
no_tab_before line k d below is =
    let long = length-take (position_or_len is_tab line) line in
    let inside : k < position_or_len is_tab line = omega arith in
    let same : get_or (key_of line) k d ≡ get_or line k d = get_or-take (position_or_len is_tab line) line k d inside in
    false≢true (sym (fails_before_first is_tab line k d inside) ∙ ap is_tab (sym same ∙ is))

pub plain_pair : (line : List ℕ) → HasNoLf line → IsPlain (pair_of line)
plain_pair line unbroken =
    record {
      key_tab = no_tab_before line;
      key_lf = All-take (λ (b : ℕ). b ≢ 10) (position_or_len is_tab line) line unbroken;
      value_lf = All-drop (λ (b : ℕ). b ≢ 10) (position_or_len is_tab line + 1) line unbroken;
    }
