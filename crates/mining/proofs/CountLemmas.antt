-- What the readers of a folder counted is what the flow counts.
use Rattle.std.proofs.Common.{◌≡◌, ℕ, zero, suc, ◌+◌, ◌<◌, Bool, true, List, [], ◌∷◌, ◌++◌, map, None, Some, refl, sym, ◌∙◌, ap, subst, arith, append_assoc}
use Rattle.std.specs.Prelude.{◌&&◌, if◌then◌else◌}
use Rattle.std.specs.List.{list_all, range_with_len}
use Rattle.std.proofs.lemmas.List.{append-nil}
use Rattle.std.proofs.lemmas.List.Folds.{list_all-append}
use Rattle.std.proofs.Math.Numerals.{add-one}
use Rattle.peg_base.specs.Names.{Names}
use Rattle.peg_text.specs.Records.{records_of}
use Rattle.dir_disk.specs.State.{State, bytes_at}
use Rattle.committer.specs.Paths.{part_of}
use Rattle.conf.specs.declared.commands.Command.{Command}
use Rattle.job.specs.Inputs.{bytes_at_each}
use Rattle.mining.specs.declared.place.Place.{Place}
use Rattle.mining.specs.Places.{folder_of}
use Rattle.mining.specs.Table.{part_paths}
use Rattle.mining.specs.Flow.{changes_in, records_from, total_in, when_good}
use Rattle.store.specs.Parts.{IsGood, Record, numbered, records_below, records_in}
use Rattle.store.specs.Totals.{changed, is_result, is_value, total_of}

map-twice : (f : Names → List ℕ) (g : ℕ → Names) (ks : List ℕ) → map f (map g ks) ≡ map (λ k. f (g k)) ks
map-twice f g [] = refl
map-twice f g (k ∷ ks) = ap (λ (rest : List (List ℕ)). f (g k) ∷ rest) (map-twice f g ks)

below_from : (s : State) (folder : Names) (a n : ℕ) → records_below s folder a ++ records_from a (map (λ p. bytes_at s (part_of folder p)) (range_with_len a n)) ≡ records_below s folder (a + n)
below_from s folder a zero =
    let is : a ≡ a + 0 = omega arith in append-nil (records_below s folder a) ∙ ap (records_below s folder) is
below_from s folder a (suc n) =
    let rest = records_from (a + 1) (map (λ p. bytes_at s (part_of folder p)) (range_with_len (a + 1) n)) in
    let is : a + 1 + n ≡ a + suc n = omega arith in
    sym (append_assoc (records_below s folder a) (records_in s folder a) rest) ∙ ap (λ (m : ℕ). records_below s folder m ++ rest) (sym (add-one a)) ∙ below_from s folder (a + 1) n ∙ ap (records_below s folder) is

pub records_are : (s : State) (place : Place) (n : ℕ) → records_from 0 (bytes_at_each s (part_paths place n)) ≡ records_below s (folder_of place) n
records_are s place n =
    let is : 0 + n ≡ n = omega arith in
    ap (records_from 0) (map-twice (bytes_at s) (part_of (folder_of place)) (range_with_len 0 n)) ∙ below_from s (folder_of place) 0 n ∙ ap (records_below s (folder_of place)) is

pub numbered_good : (good : List ℕ → Bool) (part line : ℕ) (texts : List (List ℕ)) → list_all (λ (r : Record). good r.text) (numbered part line texts) ≡ list_all good texts
numbered_good good part line [] = refl
numbered_good good part line (text ∷ texts) = ap (λ (b : Bool). good text && b) (numbered_good good part (line + 1) texts)

below_good : (good : List ℕ → Bool) (s : State) (folder : Names) (n : ℕ) → ((part : ℕ) → part < n → IsGood good s folder part) → list_all (λ (r : Record). good r.text) (records_below s folder n) ≡ true
below_good good s folder zero all = refl
below_good good s folder (suc n) all =
    list_all-append (λ (r : Record). good r.text) (records_below s folder n) (records_in s folder n) ∙ ap (λ (b : Bool). b && list_all (λ (r : Record). good r.text) (records_in s folder n)) (below_good good s folder n (λ part below. all part (omega (arith, below)))) ∙ numbered_good good n 1 (records_of (bytes_at s (part_of folder n))) ∙ (all n (omega arith)).1

good_then : (good : List ℕ → Bool) (records : List Record) (n : ℕ) → list_all (λ (r : Record). good r.text) records ≡ true → when_good good records n ≡ Some n
good_then good records n is = ap (λ (b : Bool). if b then Some n else None) is

pub changes_are : (s : State) (place : Place) (folder : Names) (n count : ℕ) → folder ≡ folder_of place → count ≡ changed (records_below s folder n) → ((part : ℕ) → part < n → IsGood is_value s folder part) → changes_in (bytes_at_each s (part_paths place n)) ≡ Some count
unfolding changes_in
changes_are s place folder n count at_place is good =
    let here : count ≡ changed (records_below s (folder_of place) n) = is ∙ ap (λ (names : Names). changed (records_below s names n)) at_place in
    let all = below_good is_value s (folder_of place) n (subst (λ (names : Names). (part : ℕ) → part < n → IsGood is_value s names part) at_place good) in
    ap (λ (records : List Record). when_good is_value records (changed records)) (records_are s place n) ∙ good_then is_value (records_below s (folder_of place) n) (changed (records_below s (folder_of place) n)) all ∙ ap Some (sym here)

pub totals_are : (s : State) (place : Place) (command : Command) (folder : Names) (n total : ℕ) → folder ≡ folder_of place → total ≡ total_of command (records_below s folder n) → ((part : ℕ) → part < n → IsGood is_result s folder part) → total_in command (bytes_at_each s (part_paths place n)) ≡ Some total
unfolding total_in
totals_are s place command folder n total at_place is good =
    let here : total ≡ total_of command (records_below s (folder_of place) n) = is ∙ ap (λ (names : Names). total_of command (records_below s names n)) at_place in
    let all = below_good is_result s (folder_of place) n (subst (λ (names : Names). (part : ℕ) → part < n → IsGood is_result s names part) at_place good) in
    ap (λ (records : List Record). when_good is_result records (total_of command records)) (records_are s place n) ∙ good_then is_result (records_below s (folder_of place) n) (total_of command (records_below s (folder_of place) n)) all ∙ ap Some (sym here)
