-- Where combining selects, messages are in order by it: steps fall, and keep the order.
use Rattle.std.proofs.Common.{◌≡◌, ℕ, Bool, IsTrue, List, [], ◌∷◌, fold, All, Contains, sym, ap, subst, ◌∙◌, inl, inr}
use Rattle.std.proofs.lemmas.List.Elements.{All-nil, All-cons, All-head, All-tail, All-weaker, All-contains, All-contains_itself}
use Rattle.graph.specs.Entries.{Entry}
use Rattle.graph.specs.Steps.{Vector, messages_to, all_of, step}
use Rattle.graph.proofs.Messages.{PassesGood, All-messages_to, each_message}
use Rattle.gimv_core.specs.Algebras.{Algebra, FitsVal, FitsMsg, VectorFits, EntryFits, EntriesFit}
use Rattle.gimv_core.specs.Laws.{IsLawful}
use Rattle.gimv_core.specs.Closings.{IsClosing, IsNotAbove}
use Rattle.gimv_core.proofs.Fitting.{fold_fits, messages_fit, gathered_fits}

module _ {Val Msg Weight : Type 0} (a : Algebra Val Msg Weight) (as_msg : Val → Msg) (laws : IsLawful a) (closing : IsClosing a as_msg) where
  -- a message is at most another one
  abbrev pub AtMost : Msg → Msg → Type 0
  AtMost x y = a.algorithm.combine x y ≡ x

  pub at_most_both : (x y z : Msg) → FitsMsg a x → FitsMsg a y → FitsMsg a z → AtMost x y → AtMost y z → AtMost x z
  at_most_both x y z fx fy fz xy yz =
      ap (λ t. a.algorithm.combine t z) (sym xy) ∙ laws.in_any_order.associative x y z fx fy fz ∙ ap (a.algorithm.combine x) yz ∙ xy

  pub at_most_same : (x y : Msg) → FitsMsg a x → FitsMsg a y → AtMost x y → AtMost y x → x ≡ y
  at_most_same x y fx fy xy yx = sym xy ∙ laws.in_any_order.commutative x y fx fy ∙ yx

  pub at_most_unit : (x : Msg) → FitsMsg a x → AtMost x a.algorithm.unit
  at_most_unit x fx = laws.in_any_order.commutative x a.algorithm.unit fx laws.in_any_order.unit_fits ∙ laws.in_any_order.neutral x fx

  pub combine_at_most_right : (x y : Msg) → FitsMsg a x → FitsMsg a y → AtMost (a.algorithm.combine x y) y
  combine_at_most_right x y fx fy = laws.in_any_order.associative x y y fx fy fy ∙ ap (a.algorithm.combine x) (closing.idempotent y fy)

  pub combine_at_most_left : (x y : Msg) → FitsMsg a x → FitsMsg a y → AtMost (a.algorithm.combine x y) x
  combine_at_most_left x y fx fy =
      subst (λ z. AtMost z x) (laws.in_any_order.commutative y x fy fx) (combine_at_most_right y x fy fx)

  pub at_most_combine : (z x y : Msg) → FitsMsg a z → FitsMsg a x → FitsMsg a y → AtMost z x → AtMost z y → AtMost z (a.algorithm.combine x y)
  at_most_combine z x y fz fx fy zx zy =
      sym (laws.in_any_order.associative z x y fz fx fy) ∙ ap (λ t. a.algorithm.combine t y) zx ∙ zy

  fold_at_most_first : (x : Msg) (ms : List Msg) → FitsMsg a x → All (FitsMsg a) ms → AtMost (fold a.algorithm.combine x ms) x
  fold_at_most_first x [] fx all = closing.idempotent x fx
  fold_at_most_first x (m ∷ ms) fx all =
      let fm = All-head (FitsMsg a) m ms all in
      let rest = All-tail (FitsMsg a) m ms all in
      let next = a.algorithm.combine x m in
      let fn = laws.in_any_order.combine_fits x m fx fm in
      at_most_both (fold a.algorithm.combine next ms) next x (fold_fits a laws next ms fn rest) fn fx (fold_at_most_first next ms fn rest) (combine_at_most_left x m fx fm)

  fold_at_most_each : (x : Msg) (ms : List Msg) → FitsMsg a x → All (FitsMsg a) ms → All (λ m. AtMost (fold a.algorithm.combine x ms) m) ms
  fold_at_most_each x [] fx all = All-nil (λ m. AtMost x m)
  fold_at_most_each x (m ∷ ms) fx all =
      let fm = All-head (FitsMsg a) m ms all in
      let rest = All-tail (FitsMsg a) m ms all in
      let next = a.algorithm.combine x m in
      let fn = laws.in_any_order.combine_fits x m fx fm in
      All-cons (λ y. AtMost (fold a.algorithm.combine next ms) y) m ms
      (at_most_both (fold a.algorithm.combine next ms) next m (fold_fits a laws next ms fn rest) fn fm (fold_at_most_first next ms fn rest) (combine_at_most_right x m fx fm))
      (fold_at_most_each next ms fn rest)

  at_most_fold : (z x : Msg) (ms : List Msg) → FitsMsg a z → FitsMsg a x → All (FitsMsg a) ms → AtMost z x → All (AtMost z) ms → AtMost z (fold a.algorithm.combine x ms)
  at_most_fold z x [] fz fx all zx each = zx
  at_most_fold z x (m ∷ ms) fz fx all zx each =
      let fm = All-head (FitsMsg a) m ms all in
      at_most_fold z (a.algorithm.combine x m) ms fz (laws.in_any_order.combine_fits x m fx fm) (All-tail (FitsMsg a) m ms all)
      (at_most_combine z x m fz fx fm zx (All-head (AtMost z) m ms each)) (All-tail (AtMost z) m ms each)

  -- what the unit and each message have, all of them put together have
  pub fold_keeps : (P : Msg → Type 0) (x : Msg) (ms : List Msg) → FitsMsg a x → All (FitsMsg a) ms → P x → All P ms → P (fold a.algorithm.combine x ms)
  fold_keeps P x [] fx all px each = px
  fold_keeps P x (m ∷ ms) fx all px each =
      let fm = All-head (FitsMsg a) m ms all in
      let pm = All-head P m ms each in
      let chosen : P (a.algorithm.combine x m) = elim (closing.selects x m fx fm) [ inl is ↦ subst P (sym is) px | inr is ↦ subst P (sym is) pm ] in
      fold_keeps P (a.algorithm.combine x m) ms (laws.in_any_order.combine_fits x m fx fm) (All-tail (FitsMsg a) m ms all) chosen (All-tail P m ms each)

  module _ (nodes : ℕ → Bool) (entries : List (Entry Weight)) (fits : EntriesFit a nodes entries) where
    abbrev pub gathered : Vector Val → ℕ → Msg
    gathered v i = all_of a.algorithm (messages_to a.algorithm entries v i)

    -- the value after a step, as a message
    pub sent_after : (v : Vector Val) (i : ℕ) → VectorFits a nodes v → IsTrue (nodes i)
        → as_msg (step a.algorithm entries v i) ≡ a.algorithm.combine (as_msg (v i)) (gathered v i)
    sent_after v i vector inside = closing.assigns (v i) (gathered v i) (vector i inside) (gathered_fits a laws nodes entries v i fits vector)

    pub step_falls : (v : Vector Val) (i : ℕ) → VectorFits a nodes v → IsTrue (nodes i) → IsNotAbove a as_msg (step a.algorithm entries v i) (v i)
    step_falls v i vector inside =
        subst (λ y. AtMost y (as_msg (v i))) (sym (sent_after v i vector inside))
        (combine_at_most_left (as_msg (v i)) (gathered v i) (closing.as_msg_fits (v i) (vector i inside)) (gathered_fits a laws nodes entries v i fits vector))

    -- what comes to a node is at most what each entry of its row passes on
    gathered_at_most : (v : Vector Val) (i : ℕ) → VectorFits a nodes v → (e : Entry Weight) → Contains entries e → e.row ≡ i
        → AtMost (gathered v i) (a.algorithm.combine2 e.weight (v e.column))
    gathered_at_most v i vector e listed here =
        let P : Msg → Type 0 = AtMost (gathered v i) in
        All-contains (PassesGood a.algorithm P v i) entries e
        (each_message a.algorithm P v i entries
        (fold_at_most_each a.algorithm.unit (messages_to a.algorithm entries v i) laws.in_any_order.unit_fits (messages_fit a laws nodes entries v i fits vector)))
        listed here

    pub entry_of : (e : Entry Weight) → Contains entries e → EntryFits a nodes e
    entry_of e listed = All-contains (EntryFits a nodes) entries e fits listed

    pub passed_on : (v : Vector Val) → VectorFits a nodes v → (e : Entry Weight) → Contains entries e → a.algorithm.combine2 e.weight (v e.column) ≡ as_msg (v e.column)
    passed_on v vector e listed =
        closing.passes_on e.weight (v e.column) (entry_of e listed).weight_fits (vector e.column (entry_of e listed).column_in)

    -- a step leaves no value above that of a column of its row
    pub step_below_column : (v : Vector Val) (i : ℕ) → VectorFits a nodes v → IsTrue (nodes i) → (e : Entry Weight) → Contains entries e → e.row ≡ i
        → IsNotAbove a as_msg (step a.algorithm entries v i) (v e.column)
    step_below_column v i vector inside e listed here =
        let x = as_msg (v i) in
        let all = gathered v i in
        let m = as_msg (v e.column) in
        let fx = closing.as_msg_fits (v i) (vector i inside) in
        let fall = gathered_fits a laws nodes entries v i fits vector in
        let fm = closing.as_msg_fits (v e.column) (vector e.column (entry_of e listed).column_in) in
        let low : AtMost all m = subst (AtMost all) (passed_on v vector e listed) (gathered_at_most v i vector e listed here) in
        subst (λ y. AtMost y m) (sym (sent_after v i vector inside))
        (at_most_both (a.algorithm.combine x all) all m (laws.in_any_order.combine_fits x all fx fall) fall fm (combine_at_most_right x all fx fall) low)

    gathered_monotone : (c v : Vector Val) → VectorFits a nodes c → VectorFits a nodes v → ((i : ℕ) → IsTrue (nodes i) → IsNotAbove a as_msg (c i) (v i))
        → (i : ℕ) → AtMost (gathered c i) (gathered v i)
    gathered_monotone c v lower upper below i =
        let z = gathered c i in
        let fz = gathered_fits a laws nodes entries c i fits lower in
        at_most_fold z a.algorithm.unit (messages_to a.algorithm entries v i) fz laws.in_any_order.unit_fits (messages_fit a laws nodes entries v i fits upper) (at_most_unit z fz)
        (All-messages_to a.algorithm (AtMost z) v i entries
        (All-weaker (Contains entries) (PassesGood a.algorithm (AtMost z) v i)
        (λ e listed here.
        let inside = (entry_of e listed).column_in in
        let x = as_msg (c e.column) in
        let y = as_msg (v e.column) in
        let zx : AtMost z x = subst (AtMost z) (passed_on c lower e listed) (gathered_at_most c i lower e listed here) in
        subst (AtMost z) (sym (passed_on v upper e listed))
        (at_most_both z x y fz (closing.as_msg_fits (c e.column) (lower e.column inside)) (closing.as_msg_fits (v e.column) (upper e.column inside)) zx (below e.column inside)))
        entries (All-contains_itself entries)))

    pub step_monotone : (c v : Vector Val) → VectorFits a nodes c → VectorFits a nodes v → ((i : ℕ) → IsTrue (nodes i) → IsNotAbove a as_msg (c i) (v i))
        → (i : ℕ) → IsTrue (nodes i) → IsNotAbove a as_msg (step a.algorithm entries c i) (step a.algorithm entries v i)
    step_monotone c v lower upper below i inside =
        let x = as_msg (c i) in
        let x' = as_msg (v i) in
        let y = gathered c i in
        let y' = gathered v i in
        let fx = closing.as_msg_fits (c i) (lower i inside) in
        let fx' = closing.as_msg_fits (v i) (upper i inside) in
        let fy = gathered_fits a laws nodes entries c i fits lower in
        let fy' = gathered_fits a laws nodes entries v i fits upper in
        let both = a.algorithm.combine x y in
        let fboth = laws.in_any_order.combine_fits x y fx fy in
        let left = at_most_both both x x' fboth fx fx' (combine_at_most_left x y fx fy) (below i inside) in
        let right = at_most_both both y y' fboth fy fy' (combine_at_most_right x y fx fy) (gathered_monotone c v lower upper below i) in
        let le = at_most_combine both x' y' fboth fx' fy' left right in
        subst (λ t. AtMost t (as_msg (step a.algorithm entries v i))) (sym (sent_after c i lower inside))
        (subst (AtMost both) (sym (sent_after v i upper inside)) le)

  pub lower_counts_as_old : (c v : Val) (m : Msg) → FitsVal a c → FitsVal a v → FitsMsg a m → IsNotAbove a as_msg c v
      → a.algorithm.assign v (a.algorithm.combine (as_msg c) m) ≡ a.algorithm.assign c m
  lower_counts_as_old c v m fc fv fm low =
      let x = as_msg c in
      let y = as_msg v in
      let fx = closing.as_msg_fits c fc in
      let fy = closing.as_msg_fits v fv in
      let fxm = laws.in_any_order.combine_fits x m fx fm in
      closing.tells_apart (a.algorithm.assign v (a.algorithm.combine x m)) (a.algorithm.assign c m) (laws.assign_fits v (a.algorithm.combine x m) fv fxm) (laws.assign_fits c m fc fm)
      (closing.assigns v (a.algorithm.combine x m) fv fxm
      ∙ sym (laws.in_any_order.associative y x m fy fx fm)
      ∙ ap (λ t. a.algorithm.combine t m) (laws.in_any_order.commutative y x fy fx ∙ low)
      ∙ sym (closing.assigns c m fc fm))
