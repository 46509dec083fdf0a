-- A role of groups, record by record.
use Rattle.std.proofs.Common.{◌≡◌, ◌≢◌, ℕ, suc, ◌+◌, true, false, ◌&&◌, List, [], ◌∷◌, ◌++◌, Option, Some, None, is_some, option_map, Result, Ok, Err, OnOk, length, refl, sym, ap, ◌∙◌, inl, inr, arith, append_assoc}
use Rattle.std.proofs.lemmas.Bool.{cases_Bool, cond-true, cond-false}
use Rattle.std.proofs.lemmas.Slice.Eq.{bytes_eq-Decides}
use Rattle.peg_text.specs.Lists.{GoesOnFrom}
use Rattle.peg_text.specs.Pairs.{key_of}
use Rattle.gimv_base.specs.Parts.{Part, nothing, after, joined}
use Rattle.gimv_base.specs.Rules.{ByGroup, has_key, onto_group, groups_of, by_group}
use Rattle.gimv_base.specs.Standings.{while_key, past_key, resumed, yet, open_key, goes_on, among_groups, rest_of}
use Rattle.gimv_base.specs.Answers.{Takes, IsBadAt, IsNotBad, Ends, GoesOnWith, GoesOn}
use Rattle.gimv_base.proofs.PartLemmas.{after-after, joined-after, joined_good, joined_bad, after_all}

pub has_key-itself : (r : List ℕ) → has_key (key_of r) r ≡ true
has_key-itself r = (bytes_eq-Decides (key_of r) (key_of r)).1 refl

same_key : (key r : List ℕ) → has_key key r ≡ true → key_of r ≡ key
same_key key r is = (bytes_eq-Decides (key_of r) key).0 is

-- the first group of records is the first record and those of its key that follow it
pub groups_of-first : (r : List ℕ) (rs : List (List ℕ)) → groups_of (r ∷ rs) ≡ (r ∷ while_key (key_of r) rs) ∷ groups_of (past_key (key_of r) rs)
groups_of-first r [] = refl
groups_of-first r (s ∷ rs) =
    let later = groups_of-first s rs in
    elim (cases_Bool (has_key (key_of r) s)) [
      | inl is ↦
          let key = same_key (key_of r) s is in
          ap (onto_group r) later ∙ cond-true _ _ _ is
          ∙ ap (λ (k : List ℕ). (r ∷ s ∷ while_key k rs) ∷ groups_of (past_key k rs)) key
          ∙ ap (λ (g : List (List ℕ)). (r ∷ g) ∷ groups_of (past_key (key_of r) rs)) (sym (cond-true _ _ _ is))
          ∙ ap (λ (g : List (List ℕ)). (r ∷ while_key (key_of r) (s ∷ rs)) ∷ groups_of g) (sym (cond-true _ _ _ is))
      | inr isnt ↦
          ap (onto_group r) later ∙ cond-false _ _ _ isnt ∙ ap (λ (g : List (List (List ℕ))). (r ∷ []) ∷ g) (sym later)
          ∙ ap (λ (g : List (List ℕ)). (r ∷ g) ∷ groups_of (s ∷ rs)) (sym (cond-false _ _ _ isnt))
          ∙ ap (λ (g : List (List ℕ)). (r ∷ while_key (key_of r) (s ∷ rs)) ∷ groups_of g) (sym (cond-false _ _ _ isnt))
    ]

none_more : (bad : Option ℕ) → bad ≡ option_map (λ k. 0 + k) bad
none_more None = refl
none_more (Some k) = ap Some (omega arith)

after_none : (p : Part) → p ≡ after [] 0 p
after_none p = ap (λ (bad : Option ℕ). record { out = p.out; bad = bad }) (none_more p.bad)

still_bad : (p : Part) → p.bad ≢ Some 0 → (found : Option ℕ) → p.bad ≡ found → (joined p 1 nothing).bad ≡ Some 0 → ⊥
still_bad p good None is bad = cc (sym (ap (λ (q : Part). q.bad) (joined_good p 1 nothing is)) ∙ bad)
still_bad p good (Some k) is bad = good (is ∙ sym (joined_bad p 1 nothing k is) ∙ bad)

some_is : (m n : ℕ) → Some m ≡ Some n → m ≡ n
some_is m n e = cc

one_less : (found : Option ℕ) → found ≢ Some 0 → option_map (λ k. 1 + k) found ≡ Some 1 → ⊥
one_less None apart e = cc
one_less (Some k) apart e = let same = some_is (1 + k) 1 e in let zero' : k ≡ 0 = omega arith in apart (ap Some zero')

-- a group has begun with this key and these further records' part
abbrev begun_group : (List (List ℕ) → Part) → List ℕ → (List (List ℕ) → Part) → List (List ℕ) → Part
begun_group part key gives rs = resumed (ByGroup part) (Some (record { key = key; part = gives })) rs

module _ (part : List (List ℕ) → Part) where
  pub group_begins : (gives : List (List ℕ) → Part) (r added : List ℕ) → ((rs : List (List ℕ)) → part (r ∷ rs) ≡ after added 1 (gives rs))
      → (later : List (List ℕ)) → by_group part (groups_of (r ∷ later)) ≡ after added 1 (begun_group part (key_of r) gives later)
  group_begins gives r added on later =
      let group = while_key (key_of r) later in
      let rest = by_group part (groups_of (past_key (key_of r) later)) in
      ap (by_group part) (groups_of-first r later) ∙ ap (λ (p : Part). joined p (suc (length group)) rest) (on group) ∙ joined-after added (gives group) (length group) rest

  pub group_goes_on : (gives now : List (List ℕ) → Part) (key r added : List ℕ) → has_key key r ≡ true → ((rs : List (List ℕ)) → gives (r ∷ rs) ≡ after added 1 (now rs))
      → (later : List (List ℕ)) → begun_group part key gives (r ∷ later) ≡ after added 1 (begun_group part key now later)
  group_goes_on gives now key r added is on later =
      let group = while_key key later in
      let rest = by_group part (groups_of (past_key key later)) in
      ap (λ (g : List (List ℕ)). joined (gives g) (length g) (by_group part (groups_of (past_key key (r ∷ later))))) (cond-true _ _ _ is)
      ∙ ap (λ (g : List (List ℕ)). joined (gives (r ∷ group)) (suc (length group)) (by_group part (groups_of g))) (cond-true _ _ _ is)
      ∙ ap (λ (p : Part). joined p (suc (length group)) rest) (on group) ∙ joined-after added (now group) (length group) rest

  -- a record of another key: the group has ended, and the record begins the next
  pub group_ends : (gives : List (List ℕ) → Part) (key r : List ℕ) → has_key key r ≡ false
      → (later : List (List ℕ)) → begun_group part key gives (r ∷ later) ≡ joined (gives []) 0 (by_group part (groups_of (r ∷ later)))
  group_ends gives key r isnt later =
      ap (λ (g : List (List ℕ)). joined (gives g) (length g) (by_group part (groups_of (past_key key (r ∷ later))))) (cond-false _ _ _ isnt)
      ∙ ap (λ (g : List (List ℕ)). joined (gives []) 0 (by_group part (groups_of g))) (cond-false _ _ _ isnt)

  first_is_bad : (r : List ℕ) → IsBadAt 1 part r → (later : List (List ℕ)) → (by_group part (groups_of (r ∷ later))).bad ≡ Some 1
  first_is_bad r bad later =
      ap (λ (gs : List (List (List ℕ))). (by_group part gs).bad) (groups_of-first r later) ∙ joined_bad (part (r ∷ while_key (key_of r) later)) _ _ 1 (bad (while_key (key_of r) later))

  module _ {S : Type 0} (further : S → List (List ℕ) → Part) where
    abbrev Here : List ℕ → Option S → List (List ℕ) → Part
    Here key state = yet (among_groups part further key state)

    -- whether a record goes on with the group, in the two words for it
    pub goes_on-is : (key r : List ℕ) (state : Option S) → goes_on (open_key (among_groups part further key state)) r ≡ (is_some state && has_key key r)
    goes_on-is key r None = refl
    goes_on-is key r (Some state) = refl

    -- the group that has begun is ended, and its text is written
    ended : (key r : List ℕ) (state : Option S) (old mid : List ℕ) → (is_some state && has_key key r) ≡ false → Ends (rest_of further state) old mid
        → (later : List (List ℕ)) → Here key state (r ∷ later) ≡ after (rest_of further state).out 0 (by_group part (groups_of (r ∷ later)))
    ended key r None old mid isnt ends later = after_none (by_group part (groups_of (r ∷ later)))
    ended key r (Some state) old mid isnt ends later =
        group_ends (further state) key r isnt later ∙ joined_good (further state []) 0 _ ends.good

    pub begins_anew : (key r : List ℕ) (state : Option S) (begun : S) (old mid new : List ℕ) → (is_some state && has_key key r) ≡ false
        → Ends (rest_of further state) old mid → Takes part (further begun) r mid new → Takes (Here key state) (Here (key_of r) (Some begun)) r old new
    begins_anew key r state begun old mid new isnt ends takes = record {
      added = (rest_of further state).out ++ takes.added;
      grown = takes.grown ∙ ap (λ l. l ++ takes.added) ends.grown ∙ append_assoc old (rest_of further state).out takes.added;
      on = λ later.
          ended key r state old mid isnt ends later
          ∙ ap (after (rest_of further state).out 0) (group_begins (further begun) r takes.added takes.on later)
          ∙ after-after (rest_of further state).out takes.added 0 1 (Here (key_of r) (Some begun) later);
    }

    pub goes_on_there : (key r : List ℕ) (state now : S) (old new : List ℕ) → has_key key r ≡ true → Takes (further state) (further now) r old new
        → Takes (Here key (Some state)) (Here key (Some now)) r old new
    goes_on_there key r state now old new is takes = record {
      added = takes.added;
      grown = takes.grown;
      on = group_goes_on (further state) (further now) key r takes.added is takes.on;
    }

    pub bad_anew : (key r : List ℕ) (state : Option S) (old mid : List ℕ) → (is_some state && has_key key r) ≡ false
        → Ends (rest_of further state) old mid → IsBadAt 1 part r → IsBadAt 1 (Here key state) r
    bad_anew key r state old mid isnt ends bad = λ later.
        ap (λ (p : Part). p.bad) (ended key r state old mid isnt ends later) ∙ ap (option_map (λ k. 0 + k)) (first_is_bad r bad later)

    pub bad_there : (key r : List ℕ) (state : S) → has_key key r ≡ true → IsBadAt 1 (further state) r → IsBadAt 1 (Here key (Some state)) r
    bad_there key r state is bad = λ later.
        let group = while_key key later in
        ap (λ (g : List (List ℕ)). (joined (further state g) (length g) (by_group part (groups_of (past_key key (r ∷ later))))).bad) (cond-true _ _ _ is)
        ∙ joined_bad (further state (r ∷ group)) _ _ 1 (bad group)

    pub bad_before_anew : (key r : List ℕ) (state : Option S) → (is_some state && has_key key r) ≡ false → (rest_of further state).bad ≡ Some 0 → IsBadAt 0 (Here key state) r
    bad_before_anew key r None isnt bad = cc
    bad_before_anew key r (Some state) isnt bad = λ later.
        ap (λ (p : Part). p.bad) (group_ends (further state) key r isnt later) ∙ joined_bad (further state []) _ _ 0 bad

    pub ends_here : (key : List ℕ) (state : Option S) (old new : List ℕ) → Ends (rest_of further state) old new → Ends (Here key state []) old new
    ends_here key None old new ends = ends
    ends_here key (Some state) old new ends =
        let is = joined_good (further state []) 0 nothing ends.good ∙ after_all (further state []).out 0 in record {
          grown = ends.grown ∙ ap (λ (p : Part). old ++ p.out) (sym is);
          good = ap (λ (p : Part). p.bad) is;
        }

    pub bad_at_end : (key : List ℕ) (state : Option S) → (rest_of further state).bad ≡ Some 0 → (Here key state []).bad ≡ Some 0
    bad_at_end key None bad = bad
    bad_at_end key (Some state) bad = joined_bad (further state []) 0 nothing 0 bad

    pub prompt_anew : (key : List ℕ) (state : Option S) (old mid new : List ℕ) → Ends (rest_of further state) old mid → GoesOnFrom mid new → GoesOnWith (Here key state []).out old new
    prompt_anew key state old mid new ends goes = record {
      more = goes.more;
      is = goes.is ∙ ap (λ l. l ++ goes.more) (ends_here key state old mid ends).grown;
    }

    -- where a further record may come, the last one isn't bad
    goes_on_good : (key r : List ℕ) (state : S) → has_key key r ≡ true → (further state (r ∷ [])).bad ≢ Some 0 → (Here key (Some state) (r ∷ [])).bad ≢ Some 0
    goes_on_good key r state is good bad =
        let alone = ap (λ (g : List (List ℕ)). (joined (further state g) (length g) (by_group part (groups_of (past_key key (r ∷ []))))).bad) (sym (cond-true _ _ _ is))
        ∙ bad in
        let alone_is = ap (λ (g : List (List ℕ)). (joined (further state (r ∷ [])) 1 (by_group part (groups_of g))).bad) (sym (cond-true _ _ _ is)) ∙ alone in
        still_bad (further state (r ∷ [])) good (further state (r ∷ [])).bad refl alone_is

    pub not_bad : (key r : List ℕ) (state : S) (before : List (List ℕ) → Part) (old new : List ℕ) → has_key key r ≡ true → (further state (r ∷ [])).bad ≢ Some 0
        → Takes before (Here key (Some state)) r old new → IsNotBad before r
    not_bad key r state before old new is good takes = record {
      later = r ∷ [];
      good = λ bad. one_less (Here key (Some state) (r ∷ [])).bad (goes_on_good key r state is good) (sym (ap (λ (p : Part). p.bad) (takes.on (r ∷ []))) ∙ bad);
    }

    -- what the answers of a group that goes on say of the role
    pub takes_there : {E : Type 0} (answer : Result (Unit {0}) E) (key r : List ℕ) (state now : Option S) (old new : List ℕ) → (is_some state && has_key key r) ≡ true
        → OnOk answer (GoesOn further state now r old new) → OnOk answer (Takes (Here key state) (Here key now) r old new)
    takes_there (Err e) key r state now old new is goes = tt
    takes_there (Ok u) key r None now old new is goes = absurd goes
    takes_there (Ok u) key r (Some state) None old new is goes = absurd goes
    takes_there (Ok u) key r (Some state) (Some now) old new is goes = goes_on_there key r state now old new is goes

    pub good_there : {E : Type 0} (answer : Result (Unit {0}) E) (key r : List ℕ) (state now : Option S) (old new : List ℕ) → (is_some state && has_key key r) ≡ true
        → ((s : S) → (further s (r ∷ [])).bad ≢ Some 0)
        → OnOk answer (GoesOn further state now r old new) → OnOk answer (IsNotBad (Here key state) r)
    good_there (Err e) key r state now old new is good goes = tt
    good_there (Ok u) key r None now old new is good goes = absurd goes
    good_there (Ok u) key r (Some state) None old new is good goes = absurd goes
    good_there (Ok u) key r (Some state) (Some now) old new is good goes =
        not_bad key r now (Here key (Some state)) old new is (good now) (goes_on_there key r state now old new is goes)
