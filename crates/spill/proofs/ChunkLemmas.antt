-- Pairs dealt out to their parts.
use Rattle.std.proofs.Common.{◌≡◌, ◌∙◌, ap, sym, refl, subst, ℕ, zero, suc, ◌+◌, ◌<◌, ◌≤◌, ◌==◌, Bool, true, false, cond, ⊎_elim, List, [], ◌∷◌, ◌++◌, length, get_or, set, replicate, take, drop, arith}
use Rattle.std.specs.Global.{Vec}
use Rattle.std.specs.List.{All}
use Rattle.std.proofs.lemmas.Bool.{cases_eq, eq-eqb, ne_eqb}
use Rattle.std.proofs.lemmas.List.{drop_at, drop-append-le, take_at, take_all, take-append-le, length-append, length-drop, length-map, map-append, map-set, get_or-map, same_lists, length-set, get_or-set_same, get_or-set_other, append-nil, length-replicate, get_or-replicate}
use Rattle.std.proofs.lemmas.List.Elements.{All-append, All-cons, All-get_or, All-head, All-nil, All-push, All-set, All-tail, All-weaker, filter-append}
use Rattle.std.proofs.lemmas.List.FromFn.{get_or-map-range_with_len, length-map-range_with_len}
use Rattle.std.proofs.Math.Seq.{map-set_same}
use Rattle.partition.specs.Hash.{part_among}
use Rattle.peg_text.specs.Pairs.{key_of, value_of, pair_line, pair_text}
use Rattle.peg_text.proofs.PairLemmas.{pairs_split_back}
use Rattle.pairs.specs.Pairs.{Pair, IsPlain, pair_of}
use Rattle.pairs.specs.Prefixes.{AreBytes}
use Rattle.spill.specs.declared.entry.Entry.{Entry}
use Rattle.spill.specs.Runs.{of_part}
use Rattle.spill.specs.Chunks.{parts_of}
use Rattle.spill.specs.Lines.{AreEntries, IsEntry, IsLine, pushed_entry, pair_of_entry, entry_pairs, line_of_entry, line_length, lists_of, rank_of}

-- ---- dealing

pub part_at : (reducers part : ℕ) (pairs : List Pair) → part < reducers → get_or (parts_of reducers pairs) part [] ≡ of_part reducers part pairs
part_at reducers part pairs below =
    get_or-map-range_with_len (λ (r : ℕ). of_part reducers r pairs) 0 reducers part part [] below (omega arith)

pub length-parts_of : (reducers : ℕ) (pairs : List Pair) → length (parts_of reducers pairs) ≡ reducers
length-parts_of reducers pairs = length-map-range_with_len (λ (r : ℕ). of_part reducers r pairs) 0 reducers

of_part_same : (reducers part : ℕ) (pairs : List Pair) (p : Pair) → part_among p.0 reducers ≡ part → of_part reducers part (pairs ++ p ∷ []) ≡ of_part reducers part pairs ++ p ∷ []
of_part_same reducers part pairs p is =
    let passes : (part_among p.0 reducers == part) ≡ true = eq-eqb (part_among p.0 reducers) part is in
    filter-append (λ (q : Pair). part_among q.0 reducers == part) pairs (p ∷ []) ∙ ap (λ (test : Bool). of_part reducers part pairs ++ cond test (p ∷ []) []) passes

of_part_other : (reducers part : ℕ) (pairs : List Pair) (p : Pair) → (part_among p.0 reducers ≡ part → ⊥) → of_part reducers part (pairs ++ p ∷ []) ≡ of_part reducers part pairs
of_part_other reducers part pairs p other =
    let fails : (part_among p.0 reducers == part) ≡ false = ne_eqb (part_among p.0 reducers) part other in
    filter-append (λ (q : Pair). part_among q.0 reducers == part) pairs (p ∷ []) ∙ ap (λ (test : Bool). of_part reducers part pairs ++ cond test (p ∷ []) []) fails ∙ append-nil (of_part reducers part pairs)

module _ (reducers : ℕ) (pairs : List Pair) (p : Pair) (below : part_among p.0 reducers < reducers) where
  abbrev at : ℕ
  at = part_among p.0 reducers

  abbrev old : List (List Pair)
  old = parts_of reducers pairs

  abbrev more : List Pair
  more = of_part reducers at pairs ++ p ∷ []

  each_dealt : (k : ℕ) (d : List Pair) → k < length (set old at more) → get_or (set old at more) k d ≡ get_or (parts_of reducers (pairs ++ p ∷ [])) k d
  each_dealt k d inside =
      let long = length-set old at more in
      let many = length-parts_of reducers pairs in
      let low : k < reducers = omega arith in
      let new : get_or (parts_of reducers (pairs ++ p ∷ [])) k d ≡ of_part reducers k (pairs ++ p ∷ []) = get_or-map-range_with_len (λ (r : ℕ). of_part reducers r (pairs ++ p ∷ [])) 0 reducers k k d low (omega arith) in
      let before : get_or old k d ≡ of_part reducers k pairs = get_or-map-range_with_len (λ (r : ℕ). of_part reducers r pairs) 0 reducers k k d low (omega arith) in
      let there : at < length old = omega (arith, many, below) in
      ⊎_elim (λ (same : k ≡ at). ap (λ (n : ℕ). get_or (set old at more) n d) same ∙ get_or-set_same old at more d there ∙ sym (of_part_same reducers at pairs p refl) ∙ ap (λ (n : ℕ). of_part reducers n (pairs ++ p ∷ [])) (sym same) ∙ sym new) (λ (other : k ≡ at → ⊥). get_or-set_other old at k more d other ∙ before ∙ sym (of_part_other reducers k pairs p (λ is. other (sym is))) ∙ sym new) (cases_eq k at)

  -- a pair more goes to the end of its part
  pub dealt_more : set old at more ≡ parts_of reducers (pairs ++ p ∷ [])
  dealt_more =
      same_lists (set old at more) (parts_of reducers (pairs ++ p ∷ [])) (length-set old at more ∙ length-parts_of reducers pairs ∙ sym (length-parts_of reducers (pairs ++ p ∷ []))) each_dealt

pub none_dealt : (reducers : ℕ) → replicate {A = List Pair} reducers [] ≡ parts_of reducers []
none_dealt reducers =
    same_lists (replicate {A = List Pair} reducers []) (parts_of reducers []) (length-replicate {A = List Pair} reducers [] ∙ sym (length-parts_of reducers [])) each
  where
    each : (k : ℕ) (d : List Pair) → k < length (replicate {A = List Pair} reducers []) → get_or (replicate {A = List Pair} reducers []) k d ≡ get_or (parts_of reducers []) k d
    each k d inside =
        let long = length-replicate {A = List Pair} reducers [] in
        let below : k < reducers = omega arith in
        get_or-replicate {A = List Pair} reducers k [] d below ∙ sym (get_or-map-range_with_len (λ (r : ℕ). of_part reducers r []) 0 reducers k k d below (omega arith))

-- a line more: its pair goes to the end of its part
pub dealt_line : (reducers : ℕ) (lists : List (List Pair)) (done : List Pair) (p : Pair) (key : List ℕ) (before after : List Pair) → lists ≡ parts_of reducers done → key ≡ p.0 → part_among key reducers < reducers → before ≡ get_or lists (part_among key reducers) [] → after ≡ before ++ p ∷ [] → set lists (part_among key reducers) after ≡ parts_of reducers (done ++ p ∷ [])
dealt_line reducers lists done p key before after so_far is_key below is_before is_after =
    let part : ℕ = part_among key reducers in
    let same : part ≡ part_among p.0 reducers = ap (λ (k : List ℕ). part_among k reducers) is_key in
    let is_part : before ≡ of_part reducers part done = is_before ∙ ap (λ (ls : List (List Pair)). get_or ls part []) so_far ∙ part_at reducers part done below in
    ap (λ (ls : List (List Pair)). set ls part after) so_far ∙ ap (λ (ps : List Pair). set (parts_of reducers done) part ps) (is_after ∙ ap (λ (ps : List Pair). ps ++ p ∷ []) is_part) ∙ ap (λ (n : ℕ). set (parts_of reducers done) n (of_part reducers n done ++ p ∷ [])) same ∙ dealt_more reducers done p (subst (λ (n : ℕ). n < reducers) same below)

-- ---- entries of a text

-- the line of a pair is read as that pair
pub key_again : (p : Pair) (line : List ℕ) → IsPlain p → line ≡ pair_text p.0 p.1 → key_of line ≡ p.0
key_again p line plain is = ap key_of is ∙ (pairs_split_back p.0 p.1 plain.key_tab).0

pub pair_again : (p : Pair) (line : List ℕ) → IsPlain p → line ≡ pair_text p.0 p.1 → pair_of line ≡ p
pair_again p line plain is =
    let value : value_of line ≡ p.1 = ap value_of is ∙ (pairs_split_back p.0 p.1 plain.key_tab).1 in
    ap (λ (k : List ℕ). let q : Pair = (k, value_of line) in q) (key_again p line plain is) ∙ ap (λ (v : List ℕ). let q : Pair = (p.0, v) in q) value

pub whole_again : (p : Pair) (line : List ℕ) → IsPlain p → line ≡ pair_text p.0 p.1 → pair_text (key_of line) (value_of line) ≡ line
whole_again p line plain is = ap (λ (q : Pair). pair_text q.0 q.1) (pair_again p line plain is) ∙ sym is

module _ (text behind : List ℕ) (e : Entry) (is : IsEntry text e) where
  -- an entry stays one of a text that goes on, and has the same line
  same_behind : (count : ℕ) → e.start + count ≤ length text → take count (drop e.start (text ++ behind)) ≡ take count (drop e.start text)
  same_behind count inside =
      let left = length-drop e.start text in
      ap (take count) (drop-append-le e.start text behind (omega (arith, inside))) ∙ take-append-le count (drop e.start text) behind (omega (arith, left, inside))

  pub line_stays : line_of_entry (text ++ behind) e ≡ line_of_entry text e
  line_stays = same_behind e.size (omega (arith, is.inside))

  pub entry_stays : IsEntry (text ++ behind) e
  entry_stays =
      let long = length-append text behind in
      record {
        inside = omega (arith, long, is.inside);
        ended = same_behind (e.size + 1) (omega (arith, is.inside)) ∙ is.ended ∙ ap (λ (l : List ℕ). l ++ 10 ∷ []) (sym line_stays);
        has = subst (λ (l : List ℕ). IsLine l e.rank) (sym line_stays) is.has;
      }

  pub pair_stays : pair_of_entry (text ++ behind) e ≡ pair_of_entry text e
  pair_stays = ap pair_of line_stays

pub pairs_stay : (text behind : List ℕ) (entries : List Entry) → All (IsEntry text) entries → entry_pairs (text ++ behind) entries ≡ entry_pairs text entries
pairs_stay text behind [] are = refl
pairs_stay text behind (e ∷ es) are =
    ap (λ (p : Pair). p ∷ entry_pairs (text ++ behind) es) (pair_stays text behind e (All-head (IsEntry text) e es are)) ∙ ap (λ (ps : List Pair). pair_of_entry text e ∷ ps) (pairs_stay text behind es (All-tail (IsEntry text) e es are))

pub lists_stay : (text behind : List ℕ) (parts : List (Vec Entry)) → AreEntries text parts → lists_of (text ++ behind) parts ≡ lists_of text parts
lists_stay text behind [] are = refl
lists_stay text behind (v ∷ vs) are =
    ap (λ (ps : List Pair). ps ∷ lists_of (text ++ behind) vs) (pairs_stay text behind v.items (All-head (λ (w : Vec Entry). All (IsEntry text) w.items) v vs are)) ∙ ap (λ (ls : List (List Pair)). entry_pairs text v.items ∷ ls) (lists_stay text behind vs (All-tail (λ (w : Vec Entry). All (IsEntry text) w.items) v vs are))

pub entries_stay : (text behind : List ℕ) (parts : List (Vec Entry)) → AreEntries text parts → AreEntries (text ++ behind) parts
entries_stay text behind parts are =
    All-weaker (λ (v : Vec Entry). All (IsEntry text) v.items) (λ (v : Vec Entry). All (IsEntry (text ++ behind)) v.items) (λ v all. All-weaker (IsEntry text) (IsEntry (text ++ behind)) (λ e is. entry_stays text behind e is) v.items all) parts are

-- ---- a pair more

module _ (text : List ℕ) (p : Pair) (plain : IsPlain p) where
  new_line : line_of_entry (text ++ pair_line p.0 p.1) (pushed_entry text p) ≡ pair_text p.0 p.1
  new_line =
      ap (take (line_length p)) (drop_at text (pair_line p.0 p.1) (length text) refl) ∙ take_at (pair_text p.0 p.1) (10 ∷ []) (line_length p) refl

  pub new_pair : pair_of_entry (text ++ pair_line p.0 p.1) (pushed_entry text p) ≡ p
  new_pair = pair_again p (line_of_entry (text ++ pair_line p.0 p.1) (pushed_entry text p)) plain new_line

  pub new_entry : AreBytes p.0 → AreBytes p.1 → IsEntry (text ++ pair_line p.0 p.1) (pushed_entry text p)
  new_entry keys values =
      let long = length-append text (pair_line p.0 p.1) in
      let line = length-append (pair_text p.0 p.1) (10 ∷ []) in
      let bytes : AreBytes (pair_text p.0 p.1) = All-append (λ b. b < 256) p.0 (9 ∷ p.1) keys (All-cons (λ b. b < 256) 9 p.1 (omega arith) values) in
      record {
        inside = omega (arith, long, line);
        ended = ap (take (line_length p + 1)) (drop_at text (pair_line p.0 p.1) (length text) refl) ∙ take_all (line_length p + 1) (pair_line p.0 p.1) (omega (arith, line)) ∙ ap (λ (l : List ℕ). l ++ 10 ∷ []) (sym new_line);
        has = subst (λ (l : List ℕ). IsLine l (rank_of p.0)) (sym new_line) (record {
          is = ap rank_of (sym (key_again p (pair_text p.0 p.1) plain refl));
          bytes = bytes;
          whole = whole_again p (pair_text p.0 p.1) plain refl;
        });
      }

-- the pair goes to its part, as its entry does
pub lists_pushed : (text : List ℕ) (parts : List (Vec Entry)) (entries grown : Vec Entry) (reducers part : ℕ) (pairs : List Pair) (p : Pair) → IsPlain p → AreEntries text parts → lists_of text parts ≡ parts_of reducers pairs → part ≡ part_among p.0 reducers → part < reducers → entries ≡ get_or parts part entries → grown.items ≡ entries.items ++ pushed_entry text p ∷ [] → lists_of (text ++ pair_line p.0 p.1) (set parts part grown) ≡ parts_of reducers (pairs ++ p ∷ [])
lists_pushed text parts entries grown reducers part pairs p plain are dealt at_part below is_entries is_grown =
    let after : List ℕ = text ++ pair_line p.0 p.1 in
    let of : Vec Entry → List Pair = λ v. entry_pairs after v.items in
    let lists : List (List Pair) = lists_of after parts in
    let so_far : lists ≡ parts_of reducers pairs = lists_stay text (pair_line p.0 p.1) parts are ∙ dealt in
    let many : length parts ≡ reducers = sym (length-map parts of) ∙ ap length so_far ∙ length-parts_of reducers pairs in
    let inside : part < length parts = omega (arith, many, below) in
    let before : of entries ≡ get_or lists (part_among p.0 reducers) [] = ap of is_entries ∙ sym (get_or-map of parts part entries [] inside) ∙ ap (λ (n : ℕ). get_or lists n []) at_part in
    let more : of grown ≡ of entries ++ p ∷ [] = ap (entry_pairs after) is_grown ∙ map-append (pair_of_entry after) entries.items (pushed_entry text p ∷ []) ∙ ap (λ (q : Pair). of entries ++ q ∷ []) (new_pair text p plain) in
    map-set of parts part grown ∙ ap (λ (n : ℕ). set lists n (of grown)) at_part ∙ dealt_line reducers lists pairs p p.0 (of entries) (of grown) so_far refl (subst (λ (n : ℕ). n < reducers) at_part below) before more

-- the entries of all parts are entries of the longer text
pub entries_pushed : (text : List ℕ) (parts : List (Vec Entry)) (entries grown : Vec Entry) (part : ℕ) (p : Pair) → IsPlain p → AreBytes p.0 → AreBytes p.1 → AreEntries text parts → part < length parts → entries ≡ get_or parts part entries → grown.items ≡ entries.items ++ pushed_entry text p ∷ [] → AreEntries (text ++ pair_line p.0 p.1) (set parts part grown)
entries_pushed text parts entries grown part p plain keys values are inside is_entries is_grown =
    let after : List ℕ = text ++ pair_line p.0 p.1 in
    let all : AreEntries after parts = entries_stay text (pair_line p.0 p.1) parts are in
    let here : All (IsEntry after) entries.items = subst (λ (v : Vec Entry). All (IsEntry after) v.items) (sym is_entries) (All-get_or (λ (v : Vec Entry). All (IsEntry after) v.items) parts part entries inside all) in
    let more : All (IsEntry after) grown.items = subst (λ (es : List Entry). All (IsEntry after) es) (sym is_grown) (All-push (IsEntry after) entries.items (pushed_entry text p) here (new_entry text p plain keys values)) in
    All-set (λ (v : Vec Entry). All (IsEntry after) v.items) parts part grown more all

-- where a part has the entries that it had
pub lists_kept : (text : List ℕ) (parts : List (Vec Entry)) (entries kept : Vec Entry) (part : ℕ) → entries ≡ get_or parts part entries → kept.items ≡ entries.items → lists_of text (set parts part kept) ≡ lists_of text parts
lists_kept text parts entries kept part is_entries is_kept =
    let of : Vec Entry → List Pair = λ v. entry_pairs text v.items in
    map-set_same of parts part kept entries (ap (entry_pairs text) is_kept ∙ ap of is_entries)

pub entries_kept : (text : List ℕ) (parts : List (Vec Entry)) (entries kept : Vec Entry) (part : ℕ) → part < length parts → entries ≡ get_or parts part entries → kept.items ≡ entries.items → AreEntries text parts → AreEntries text (set parts part kept)
entries_kept text parts entries kept part inside is_entries is_kept are =
    let here : All (IsEntry text) entries.items = subst (λ (v : Vec Entry). All (IsEntry text) v.items) (sym is_entries) (All-get_or (λ (v : Vec Entry). All (IsEntry text) v.items) parts part entries inside are) in
    All-set (λ (v : Vec Entry). All (IsEntry text) v.items) parts part kept (subst (λ (es : List Entry). All (IsEntry text) es) (sym is_kept) here) are

-- ---- no entries

pub none_listed : (text : List ℕ) (parts : List (Vec Entry)) (count : ℕ) → All (λ (v : Vec Entry). v.items ≡ []) parts → length parts ≡ count → lists_of text parts ≡ replicate {A = List Pair} count []
none_listed text [] zero none many = refl
none_listed text [] (suc count) none many = absurd (omega (arith, many))
none_listed text (v ∷ vs) zero none many = absurd (omega (arith, many))
none_listed text (v ∷ vs) (suc count) none many =
    ap (λ (es : List Entry). entry_pairs text es ∷ lists_of text vs) (All-head (λ (w : Vec Entry). w.items ≡ []) v vs none) ∙ ap (λ (ls : List (List Pair)). [] ∷ ls) (none_listed text vs count (All-tail (λ (w : Vec Entry). w.items ≡ []) v vs none) (omega (arith, many)))

pub none_are_entries : (text : List ℕ) (parts : List (Vec Entry)) → All (λ (v : Vec Entry). v.items ≡ []) parts → AreEntries text parts
none_are_entries text parts none =
    All-weaker (λ (v : Vec Entry). v.items ≡ []) (λ (v : Vec Entry). All (IsEntry text) v.items) (λ v is. subst (λ (es : List Entry). All (IsEntry text) es) (sym is) (All-nil (IsEntry text))) parts none
