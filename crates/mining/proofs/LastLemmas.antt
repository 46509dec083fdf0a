-- The last iteration is the first one after which the command may end.
use Rattle.std.proofs.Common.{◌≡◌, ℕ, zero, suc, ◌+◌, ◌-◌, ◌^◌, ◌<◌, ◌≤◌, Bool, true, false, ⊎_elim, List, [], ◌∷◌, ◌++◌, length, take, drop, None, Some, refl, sym, ◌∙◌, ap, subst, arith, append_assoc}
use Rattle.std.specs.Prelude.{nat_le, ◌==◌, ◌&&◌, ◌||◌, Option, Result, Ok, Err, OnOk, IfSome, if◌then◌else◌, unwrap_or, is_some, codes, decimal}
use Rattle.std.specs.List.{find, flat_map, range_with_len}
use Rattle.std.proofs.lemmas.Bool.{false≢true, cases_Bool, cases_lt}
use Rattle.std.proofs.Math.Seq.{take-append_seam}
use Rattle.std.proofs.lemmas.List.{append-nil, take-append-drop}
use Rattle.conf.specs.declared.commands.Command.{Command}
use Rattle.conf.specs.declared.commands.Command.TheVariants.{Plain, Hcc, Hadi, PageRank}
use Rattle.conf.specs.declared.reading.Conf.{Conf as Settings}
use Rattle.conf.specs.Commands.{is_mining}
use Rattle.conf.specs.Limits.{IsWithinLimits}
use Rattle.dir_disk.specs.Streams.{AddsPart, added}
use Rattle.conf.specs.Commands.{name_of}
use Rattle.report.specs.Lines.{done_text, iteration_text, total_name}
use Rattle.dir_disk.specs.State.{State, IsSound}
use Rattle.committer.specs.Paths.{success_of}
use Rattle.mining.specs.declared.place.Place.TheVariants.{Vector, Results}
use Rattle.mining.specs.Places.{folder_of}
use Rattle.mining.specs.Flow.{Mining, count_of, ends_at_most, ends_unchanged, flow, is_end, is_unchanged, last_of, most_of, total_in}
use Rattle.mining.specs.Kept.{AllKept}
use Rattle.mining.specs.Between.{IsSure}
use Rattle.mining.specs.Iterations.{IsNext, done_line_at, line_at, lines_after}

found_here : (p : ℕ → Bool) (x : ℕ) (xs : List ℕ) → p x ≡ true → find p (x ∷ xs) ≡ Some x
found_here p x xs is = ap (λ (test : Bool). if test then Some x else find p xs) is

found_later : (p : ℕ → Bool) (x : ℕ) (xs : List ℕ) → p x ≡ false → find p (x ∷ xs) ≡ find p xs
found_later p x xs is = ap (λ (test : Bool). if test then Some x else find p xs) is

same_some : (x y : ℕ) → Some x ≡ Some y → x ≡ y
same_some x y same = ap (λ (o : Option ℕ). unwrap_or o 0) same

found_passes : (p : ℕ → Bool) (xs : List ℕ) (l : ℕ) → find p xs ≡ Some l → p l ≡ true
found_passes p [] l found = absurd (false≢true (ap is_some found))
found_passes p (x ∷ xs) l found =
    ⊎_elim (λ is. subst (λ (y : ℕ). p y ≡ true) (same_some x l (sym (found_here p x xs is) ∙ found)) is) (λ fails. found_passes p xs l (sym (found_later p x xs fails) ∙ found)) (cases_Bool (p x))

first_up_to : (p : ℕ → Bool) (a n k : ℕ) → a ≤ k → k < a + n → p k ≡ true → (l : ℕ) × (find p (range_with_len a n) ≡ Some l) × (l ≤ k)
first_up_to p a zero k from to is = absurd (omega (arith, from, to))
first_up_to p a (suc n) k from to is =
    ⊎_elim (λ here. (a, found_here p a (range_with_len (a + 1) n) here, from)) (λ fails. let more : a + 1 ≤ k = next fails in let rest = first_up_to p (a + 1) n k more (omega (arith, to)) is in (rest.0, found_later p a (range_with_len (a + 1) n) fails ∙ rest.1, rest.2)) (cases_Bool (p a))
  where
    next : p a ≡ false → a + 1 ≤ k
    next fails =
        ⊎_elim (λ less. omega (arith, less)) (λ past. let same : k ≡ a = omega (arith, past, from) in absurd (false≢true (sym fails ∙ subst (λ (x : ℕ). p x ≡ true) same is))) (cases_lt a k)

-- the count matters only where a command may end by it
end_by : (conf : Settings) (k : ℕ) (count : Option ℕ) (changed : ℕ) → (1 ≤ k → ends_unchanged conf.command ≡ true → count ≡ Some changed) → is_end conf k count ≡ is_end conf k (Some changed)
end_by conf zero count changed counts = refl
end_by conf (suc k) count changed counts =
    ⊎_elim (λ by_count. ap (is_end conf (suc k)) (counts (omega arith) by_count)) (λ not_by. ap (λ (b : Bool). nat_le 1 (suc k) && ((b && is_unchanged count) || (ends_at_most conf.command && suc k == most_of conf conf.command))) not_by ∙ ap (λ (b : Bool). nat_le 1 (suc k) && ((b && is_unchanged (Some changed)) || (ends_at_most conf.command && suc k == most_of conf conf.command))) (sym not_by)) (cases_Bool (ends_unchanged conf.command))

module _ (mining : Mining) (k changed : ℕ) (counts : 1 ≤ k → ends_unchanged mining.conf.command ≡ true → count_of mining k ≡ Some changed) where
  abbrev ends : ℕ → Bool
  ends j = is_end mining.conf j (count_of mining j)

  here : ends k ≡ is_end mining.conf k (Some changed)
  here = end_by mining.conf k (count_of mining k) changed counts

  -- it is no last iteration, so another one comes
  pub goes_on : (s : State) → IsSound s → AllKept mining s → k + 1 < 10 ^ 10 → IsSure (Vector k) s → is_end mining.conf k (Some changed) ≡ false → IsNext mining (k + 1) s
  unfolding last_of
  goes_on s sound kept few sure no_end =
      let before : k + 1 - 1 ≡ k = omega arith in
      record {
        some = omega arith;
        few = few;
        before = subst (λ (j : ℕ). IsSure (Vector j) s) (sym before) sure;
        may = past (last_of mining) refl (bounds);
      }
    where
      mark : Option (List ℕ)
      mark = (s (success_of (folder_of (Vector k)))).now

      bounds : IfSome (last_of mining) (λ l. k ≤ l)
      bounds = (kept (λ q. (s q).now) sound).bounds (Vector k) (omega (arith, few)) (sure mark (sound (success_of (folder_of (Vector k)))))

      past : (o : Option ℕ) → last_of mining ≡ o → IfSome o (λ l. k ≤ l) → IfSome o (λ l. k + 1 ≤ l)
      past None is up_to = up_to
      past (Some l) is up_to =
          ⊎_elim (λ less. omega (arith, less)) (λ over. let same : l ≡ k = omega (arith, over, up_to) in absurd (false≢true (sym (here ∙ no_end) ∙ subst (λ (j : ℕ). ends j ≡ true) same (found_passes ends (range_with_len 1 (most_of mining.conf mining.conf.command)) l is)))) (cases_lt k l)

  -- it is the last iteration
  pub is_last : (s : State) → IsSound s → AllKept mining s → 1 ≤ k → k ≤ most_of mining.conf mining.conf.command → k < 10 ^ 10 → IsSure (Vector k) s → is_end mining.conf k (Some changed) ≡ true → last_of mining ≡ Some k
  unfolding last_of
  is_last s sound kept some most few sure end =
      let first = first_up_to ends 1 (most_of mining.conf mining.conf.command) k some (omega (arith, most)) (here ∙ end) in
      let up_to : k ≤ first.0 = subst (λ (o : Option ℕ). IfSome o (λ l. k ≤ l)) first.1 ((kept (λ q. (s q).now) sound).bounds (Vector k) few (sure (s (success_of (folder_of (Vector k)))).now (sound (success_of (folder_of (Vector k)))))) in
      let same : first.0 ≡ k = (let below = first.2 in omega (arith, up_to, below)) in
      first.1 ∙ ap Some same

-- ---- limits

pub most_small : (conf : Settings) → IsWithinLimits conf → most_of conf conf.command < 10 ^ 10
most_small conf limits = at conf.command
  where
    at : (command : Command) → most_of conf command < 10 ^ 10
    at Plain = omega arith
    at Hcc = let most = limits.nodes.1 in omega (arith, most)
    at Hadi = let most = limits.hops.1 in omega (arith, most)
    at PageRank = let most = limits.iters.1 in omega (arith, most)

pub most_some : (conf : Settings) → IsWithinLimits conf → is_mining conf.command ≡ true → 1 ≤ most_of conf conf.command
most_some conf limits mines = at conf.command mines
  where
    at : (command : Command) → is_mining command ≡ true → 1 ≤ most_of conf command
    at Plain mines = absurd (false≢true mines)
    at Hcc mines = limits.nodes.0
    at Hadi mines = limits.hops.0
    at PageRank mines = limits.iters.0

-- ---- lines

flat_range_more : (f : ℕ → List ℕ) (a n : ℕ) → flat_map f (range_with_len a (suc n)) ≡ flat_map f (range_with_len a n) ++ f (a + n)
flat_range_more f a zero =
    let is : a ≡ a + 0 = omega arith in append-nil (f a) ∙ ap f is
flat_range_more f a (suc n) =
    let is : a + 1 + n ≡ a + suc n = omega arith in
    ap (λ (rest : List ℕ). f a ++ rest) (flat_range_more f (a + 1) n) ∙ sym (append_assoc (f a) (flat_map f (range_with_len (a + 1) n)) (f (a + 1 + n))) ∙ ap (λ (m : ℕ). (f a ++ flat_map f (range_with_len (a + 1) n)) ++ f m) is

lines_more : (mining : Mining) (from k : ℕ) → from ≤ k → lines_after mining from (k + 1 - from) ≡ lines_after mining from (k - from) ++ line_at mining (k + 1)
lines_more mining from k order =
    let count : k + 1 - from ≡ suc (k - from) = omega (arith, order) in
    let next : from + 1 + (k - from) ≡ k + 1 = omega (arith, order) in
    ap (λ (n : ℕ). lines_after mining from n) count ∙ flat_range_more (line_at mining) (from + 1) (k - from) ∙ ap (λ (n : ℕ). lines_after mining from (k - from) ++ line_at mining n) next

added_none : (o : Option (List ℕ)) → o ≡ added o []
added_none None = refl
added_none (Some xs) = ap Some (sym (append-nil xs))

added_twice : (o : Option (List ℕ)) (xs ys : List ℕ) → added (added o xs) ys ≡ added o (xs ++ ys)
added_twice None xs ys = refl
added_twice (Some zs) xs ys = ap Some (append_assoc zs xs ys)

pub said_none : (mining : Mining) (said : Option (List ℕ)) (k : ℕ) → said ≡ added said (lines_after mining k (k - k))
said_none mining said k =
    let none : 0 ≡ k - k = omega arith in
    added_none said ∙ ap (λ (n : ℕ). added said (lines_after mining k n)) none

pub said_more : (mining : Mining) (first said now : Option (List ℕ)) (from k changed : ℕ) → from ≤ k → said ≡ added first (lines_after mining from (k - from)) → count_of mining (k + 1) ≡ Some changed → now ≡ added said (iteration_text (k + 1) changed) → now ≡ added first (lines_after mining from (k + 1 - from))
said_more mining first said now from k changed order before counts more =
    let line : iteration_text (k + 1) changed ≡ line_at mining (k + 1) = ap (λ (o : Option ℕ). iteration_text (k + 1) (unwrap_or o 0)) (sym counts) in
    more ∙ ap (λ (o : Option (List ℕ)). added o (iteration_text (k + 1) changed)) before ∙ added_twice first (lines_after mining from (k - from)) (iteration_text (k + 1) changed) ∙ ap (λ (text : List ℕ). added first (lines_after mining from (k - from) ++ text)) line ∙ ap (added first) (sym (lines_more mining from k order))

-- ---- a part of the lines

flat_range_split : (f : ℕ → List ℕ) (a m n count : ℕ) → count ≡ m + n → flat_map f (range_with_len a count) ≡ flat_map f (range_with_len a m) ++ flat_map f (range_with_len (a + m) n)
flat_range_split f a zero n count is =
    let same : count ≡ n = omega (arith, is) in
    let start : a ≡ a + 0 = omega arith in
    ap (λ (c : ℕ). flat_map f (range_with_len a c)) same ∙ ap (λ (b : ℕ). flat_map f (range_with_len b n)) start
flat_range_split f a (suc m) n zero is = absurd (omega (arith, is))
flat_range_split f a (suc m) n (suc count) is =
    let start : a + 1 + m ≡ a + suc m = omega arith in
    ap (λ (rest : List ℕ). f a ++ rest) (flat_range_split f (a + 1) m n count (omega (arith, is))) ∙ sym (append_assoc (f a) (flat_map f (range_with_len (a + 1) m)) (flat_map f (range_with_len (a + 1 + m) n))) ∙ ap (λ (b : ℕ). (f a ++ flat_map f (range_with_len (a + 1) m)) ++ flat_map f (range_with_len b n)) start

lines_split : (mining : Mining) (from k l : ℕ) → from ≤ k → k ≤ l → lines_after mining from (l - from) ≡ lines_after mining from (k - from) ++ lines_after mining k (l - k)
lines_split mining from k l first second =
    let start : from + 1 + (k - from) ≡ k + 1 = omega (arith, first) in
    flat_range_split (line_at mining) (from + 1) (k - from) (l - k) (l - from) (omega (arith, first, second)) ∙ ap (λ (b : ℕ). lines_after mining from (k - from) ++ flat_map (line_at mining) (range_with_len b (l - k))) start

front_part : (before now : Option (List ℕ)) (text front held : List ℕ) → now ≡ added before front → text ≡ front ++ held → AddsPart before now text
front_part before now text front held said split =
    record { len = length front; is = said ∙ ap (added before) (sym (ap (take (length front)) split ∙ take-append_seam front held)) }

pub part_of_all : (mining : Mining) (first said : Option (List ℕ)) (from k l : ℕ) → from ≤ k → k ≤ l → said ≡ added first (lines_after mining from (k - from)) → AddsPart first said (lines_after mining from (l - from))
part_of_all mining first said from k l below above is =
    front_part first said (lines_after mining from (l - from)) (lines_after mining from (k - from)) (lines_after mining k (l - k)) is (lines_split mining from k l below above)

pub part_of_next : (mining : Mining) (first said now : Option (List ℕ)) (from k l : ℕ) → from ≤ k → k + 1 ≤ l → said ≡ added first (lines_after mining from (k - from)) → AddsPart said now (line_at mining (k + 1)) → AddsPart first now (lines_after mining from (l - from))
part_of_next mining first said now from k l below above is part =
    let front = lines_after mining from (k - from) in
    let line = line_at mining (k + 1) in
    let rest = lines_after mining (k + 1) (l - (k + 1)) in
    let all : lines_after mining from (l - from) ≡ (front ++ line) ++ rest = lines_split mining from (k + 1) l (omega (arith, below)) above ∙ ap (λ (text : List ℕ). text ++ rest) (lines_more mining from k below) in
    front_part first now (lines_after mining from (l - from)) (front ++ take part.len line) (drop part.len line ++ rest) (part.is ∙ ap (λ (o : Option (List ℕ)). added o (take part.len line)) is ∙ added_twice first front (take part.len line)) (all ∙ ap (λ (text : List ℕ). (front ++ text) ++ rest) (sym (take-append-drop part.len line)) ∙ regroup front (take part.len line) (drop part.len line) rest)
  where
    regroup : (a b c d : List ℕ) → (a ++ (b ++ c)) ++ d ≡ (a ++ b) ++ (c ++ d)
    regroup a b c d = ap (λ (text : List ℕ). text ++ d) (sym (append_assoc a b c)) ∙ append_assoc (a ++ b) c d

pub up_to_last : (mining : Mining) (k l : ℕ) (s : State) → IsSound s → AllKept mining s → k < 10 ^ 10 → IsSure (Vector k) s → last_of mining ≡ Some l → k ≤ l
up_to_last mining k l s sound kept few sure last =
    subst (λ (o : Option ℕ). IfSome o (λ m. k ≤ m)) last ((kept (λ q. (s q).now) sound).bounds (Vector k) few (sure (s (success_of (folder_of (Vector k)))).now (sound (success_of (folder_of (Vector k))))))

pub next_up_to : (mining : Mining) (k l : ℕ) (s : State) → IsNext mining k s → last_of mining ≡ Some l → k ≤ l
next_up_to mining k l s next last = subst (λ (o : Option ℕ). IfSome o (λ m. k ≤ m)) last next.may

-- whether it is settled shows for one command alone
settled_by : (conf : Settings) (command : Command) (last total : ℕ) (one other : Bool) → conf.command ≡ command → (ends_unchanged command ≡ true → one ≡ other) → done_text conf last one total ≡ done_text conf last other total
settled_by conf Plain last total one other is same = ap (λ (c : Command). codes "done " ++ name_of c ++ codes " iterations " ++ decimal last ++ total_name c one ++ decimal total ++ codes "\n") is ∙ sym (ap (λ (c : Command). codes "done " ++ name_of c ++ codes " iterations " ++ decimal last ++ total_name c other ++ decimal total ++ codes "\n") is)
settled_by conf Hcc last total one other is same = ap (λ (b : Bool). done_text conf last b total) (same refl)
settled_by conf Hadi last total one other is same = ap (λ (b : Bool). done_text conf last b total) (same refl)
settled_by conf PageRank last total one other is same = ap (λ (c : Command). codes "done " ++ name_of c ++ codes " iterations " ++ decimal last ++ total_name c one ++ decimal total ++ codes "\n") is ∙ sym (ap (λ (c : Command). codes "done " ++ name_of c ++ codes " iterations " ++ decimal last ++ total_name c other ++ decimal total ++ codes "\n") is)

pub done_is : (mining : Mining) (last changed total : ℕ) → 1 ≤ last → (1 ≤ last → ends_unchanged mining.conf.command ≡ true → count_of mining last ≡ Some changed) → total_in mining.conf.command (flow mining Results) ≡ Some total → done_text mining.conf last (changed == 0) total ≡ done_line_at mining last
done_is mining last changed total some counts totals =
    ap (λ (o : Option ℕ). done_text mining.conf last (changed == 0) (unwrap_or o 0)) (sym totals) ∙ settled_by mining.conf mining.conf.command last (unwrap_or (total_in mining.conf.command (flow mining Results)) 0) (changed == 0) (is_unchanged (count_of mining last)) refl (λ by. ap is_unchanged (sym (counts some by)))

-- ---- the whole console

pub end_some : (conf : Settings) (k : ℕ) (count : Option ℕ) → is_end conf k count ≡ true → 1 ≤ k
end_some conf zero count end = absurd (false≢true end)
end_some conf (suc k) count end = omega arith

pub last_some : (mining : Mining) (k : ℕ) → last_of mining ≡ Some k → 1 ≤ k
unfolding last_of
last_some mining k is =
    end_some mining.conf k (count_of mining k) (found_passes (λ j. is_end mining.conf j (count_of mining j)) (range_with_len 1 (most_of mining.conf mining.conf.command)) k is)

pub same_last : (mining : Mining) (k l : ℕ) → last_of mining ≡ Some k → last_of mining ≡ Some l → k ≡ l
same_last mining k l one other = same_some k l (sym one ∙ other)

pub part_longer : (before now : Option (List ℕ)) (xs ys : List ℕ) → AddsPart before now xs → AddsPart before now (xs ++ ys)
part_longer before now xs ys part =
    front_part before now (xs ++ ys) (take part.len xs) (drop part.len xs ++ ys) part.is (ap (λ (text : List ℕ). text ++ ys) (sym (take-append-drop part.len xs)) ∙ append_assoc (take part.len xs) (drop part.len xs) ys)

pub part_then : (before mid now : Option (List ℕ)) (xs ys : List ℕ) → mid ≡ added before xs → AddsPart mid now ys → AddsPart before now (xs ++ ys)
part_then before mid now xs ys all part =
    front_part before now (xs ++ ys) (xs ++ take part.len ys) (drop part.len ys) (part.is ∙ ap (λ (o : Option (List ℕ)). added o (take part.len ys)) all ∙ added_twice before xs (take part.len ys)) (ap (λ (text : List ℕ). xs ++ text) (sym (take-append-drop part.len ys)) ∙ sym (append_assoc xs (take part.len ys) (drop part.len ys)))

pub all_then : (before mid now : Option (List ℕ)) (xs ys : List ℕ) → mid ≡ added before xs → now ≡ added mid ys → now ≡ added before (xs ++ ys)
all_then before mid now xs ys first second =
    second ∙ ap (λ (o : Option (List ℕ)). added o ys) first ∙ added_twice before xs ys

pub on_both : {T E : Type 0} (P Q R : Type 0) (result : Result T E) → (P → Q → R) → OnOk result P → OnOk result Q → OnOk result R
on_both P Q R (Ok value) both p q = both p q
on_both P Q R (Err error) both p q = p
