-- The parts of a folder, one after another.
use Rattle.std.proofs.Common.{◌≡◌, ℕ, ◌+◌, ◌<◌, Bool, true, false, List, ◌++◌, Option, Some, None, refl, sym, ap, subst, arith, inl, inr, add-one}
use Rattle.std.specs.List.{list_all}
use Rattle.std.specs.Option.{is_some}
use Rattle.std.proofs.lemmas.Bool.{false≢true, cases_lt}
use Rattle.peg_base.specs.Names.{Names}
use Rattle.peg_text.specs.Records.{records_of}
use Rattle.dir_disk.specs.State.{Content, State, bytes_of, bytes_at}
use Rattle.dir_disk.specs.Calls.{HasFile, IsLength}
use Rattle.committer.specs.Paths.{part_of}
use Rattle.store.specs.Parts.{Record, numbered, records_in, records_below, IsFirstBad, IsBad, IsGood, IsBadStore}
use Rattle.store.specs.Tallies.{HasAll}

sized_none : (content : Content) (size : Option ℕ) → IsLength content size → is_some size ≡ false → content ≡ None
sized_none content None len none = len
sized_none content (Some n) len none = absurd (false≢true (sym none))

module _ (is_good : List ℕ → Bool) (state : State) (folder : Names) (parts part : ℕ) (path : Names) (inside : part < parts) (named : path ≡ part_of folder part) (before : (other : ℕ) → other < part → IsGood is_good state folder other) where
  pub missing_bad : (size : Option ℕ) → IsLength (state path).now size → is_some size ≡ false → IsBadStore is_good state folder parts path 0
  missing_bad size len none =
      record {
        part = part;
        inside = inside;
        named = named;
        before = before;
        bad = subst (λ (c : Content). IsBad is_good c 0) (sym (sized_none (state path).now size len none)) refl;
      }

  pub record_bad : (line : ℕ) → HasFile state path → IsFirstBad is_good (records_of (bytes_at state path)) line → IsBadStore is_good state folder parts path line
  record_bad line there bad =
      record {
        part = part;
        inside = inside;
        named = named;
        before = before;
        bad = subst (λ (c : Content). IsBad is_good c line) (sym there.1) (subst (λ (c : Content). IsFirstBad is_good (records_of (bytes_of c)) line) there.1 bad);
      }

  pub next_good : HasFile state path → list_all is_good (records_of (bytes_at state path)) ≡ true → (other : ℕ) → other < part + 1 → IsGood is_good state folder other
  next_good there good other below =
      elim (cases_lt other part) [
        | inl early ↦ before other early
        | inr late ↦
            let is : part ≡ other = omega arith in
            subst (λ (n : ℕ). IsGood is_good state folder n) is (subst (λ (p : Names). HasFile state p) named there, subst (λ (p : Names). list_all is_good (records_of (bytes_at state p)) ≡ true) named good)
      ]

  pub next_tallied : (tallies : List Record → Type 0) → HasAll is_good tallies (records_below state folder part) part (records_of (bytes_at state path)) → tallies (records_below state folder (part + 1))
  next_tallied tallies all =
      let here : records_below state folder part ++ numbered part 1 (records_of (bytes_at state path)) ≡ records_below state folder part ++ records_in state folder part = ap (λ (p : Names). records_below state folder part ++ numbered part 1 (records_of (bytes_at state p))) named in
      subst (λ (n : ℕ). tallies (records_below state folder n)) (sym (add-one part)) (subst tallies here all.tallied)

pub next_there : (state : State) (folder : Names) (part : ℕ) (path : Names) → path ≡ part_of folder part → ((other : ℕ) → other < part → HasFile state (part_of folder other)) → HasFile state path → (other : ℕ) → other < part + 1 → HasFile state (part_of folder other)
next_there state folder part path named before there other below =
    elim (cases_lt other part) [
      | inl early ↦ before other early
      | inr late ↦
          let is : part ≡ other = omega arith in
          subst (λ (n : ℕ). HasFile state (part_of folder n)) is (subst (λ (p : Names). HasFile state p) named there)
    ]
