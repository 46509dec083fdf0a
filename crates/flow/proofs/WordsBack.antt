-- The words of a folder's jobs name the roles that the base form needs.
use Rattle.std.proofs.Common.{◌≡◌, refl, ap, ◌∙◌, Bool, true, false, ℕ, ◌<◌, ◌≤◌, ◌^◌, List, [], ◌∷◌, codes, decimal, leb, Option, Some, option_map, option_and_then, arith}
use Rattle.std.proofs.lemmas.Bool.{cond-true, le-leb, and_from}
use Rattle.peg_text.proofs.DecimalLemmas.{decimals_read_back}
use Rattle.words.specs.Words.{within}
use Rattle.gimv_base.specs.BaseRules.{id_rule, entries_rule, degrees_rule}
use Rattle.hcc.specs.Components.{hcc_algebra}
use Rattle.pagerank.specs.Ranks.{page_rank_algebra}
use Rattle.hadi.specs.Hadi.{hadi_algebra}
use Rattle.child.specs.declared.kinds.Algorithm.{Algorithm}
use Rattle.child.specs.declared.kinds.Algorithm.TheVariants.{Hcc, PageRank, Hadi}
use Rattle.child.specs.declared.kinds.NodeRole.{NodeRole}
use Rattle.child.specs.declared.kinds.NodeRole.TheVariants.{First, Stage1, Stage2, Number}
use Rattle.child.specs.declared.kinds.Kind.TheVariants.{Nodes}
use Rattle.child.specs.declared.roles.RoleName.{RoleName}
use Rattle.child.specs.declared.roles.RoleName.TheVariants as Role
use Rattle.child.specs.Roles.{role_named}
use Rattle.child.specs.Words.{algorithm_of, asked_of, node_count_of, rule_of, rule_over_nodes, rule_of_kind, over_nodes as words_over_nodes}
use Rattle.conf.specs.declared.commands.Command.{Command}
use Rattle.conf.specs.declared.commands.Command.TheVariants.{Hcc as OfHcc, PageRank as OfPageRank, Hadi as OfHadi}
use Rattle.conf.specs.declared.reading.Conf.{Conf}
use Rattle.mining.specs.Table.{algorithm_word, over_nodes, id_role, matrix_map, matrix_reduce}
use Rattle.flow_core.specs.Following.{Giving, Follows}
use Rattle.flow_base.specs.Roles.{RoleWords, FollowsRoles}
use Rattle.flow.specs.Children.{FollowsChildren}

node_count_back : (n : ℕ) → 1 ≤ n → n ≤ 2 ^ 30 → node_count_of (decimal n) ≡ Some n
node_count_back n some few =
    ap (option_and_then (within 1 (2 ^ 30))) (decimals_read_back n (omega arith)) ∙ cond-true _ _ _ (and_from (leb 1 n) (leb n (2 ^ 30)) (le-leb 1 n some) (le-leb n (2 ^ 30) few))

-- the word of a role over nodes: the role has a name, and asks for an algorithm and a number of nodes
record IsWordOf (role : NodeRole) (word : List ℕ) : Type 0 where
  name : RoleName
  named : role_named word ≡ Some name
  asks : (words : List (List ℕ)) → asked_of words name ≡ words_over_nodes role words

is_first : IsWordOf First (codes "first")
is_first = record { name = Role.First; named = refl; asks = λ words. refl }

is_stage1 : IsWordOf Stage1 (codes "stage1")
is_stage1 = record { name = Role.Stage1; named = refl; asks = λ words. refl }

is_stage2 : IsWordOf Stage2 (codes "stage2")
is_stage2 = record { name = Role.Stage2; named = refl; asks = λ words. refl }

is_number : IsWordOf Number (codes "number")
is_number = record { name = Role.Number; named = refl; asks = λ words. refl }

-- with an algorithm's word and a number of nodes
role_rule : (role : NodeRole) (word : List ℕ) → IsWordOf role word → (algorithm : Algorithm) (text : List ℕ) → algorithm_of text ≡ Some algorithm → (n : ℕ) → 1 ≤ n → n ≤ 2 ^ 30
    → rule_of (word ∷ text ∷ decimal n ∷ []) ≡ Some (rule_over_nodes role algorithm n)
role_rule role word is algorithm text algorithm_is n some few =
    ap (option_map rule_of_kind)
    (ap (option_and_then (asked_of (word ∷ text ∷ decimal n ∷ []))) is.named
    ∙ is.asks (word ∷ text ∷ decimal n ∷ [])
    ∙ ap (λ (found : Option Algorithm). option_and_then (λ a. option_map (λ m. Nodes role a m) (node_count_of (decimal n))) found) algorithm_is
    ∙ ap (option_map (λ m. Nodes role algorithm m)) (node_count_back n some few))

-- the first word of each child
abbrev pub with_program : List (List ℕ) → List (List ℕ)
with_program words = codes "pegchild" ∷ words

-- the words of the base form's roles
abbrev pub words_for : Conf → RoleWords
words_for conf =
    record {
      copy = with_program id_role;
      first = with_program (over_nodes conf (codes "first"));
      stage1 = with_program (over_nodes conf (codes "stage1"));
      stage2 = with_program (over_nodes conf (codes "stage2"));
      number = with_program (over_nodes conf (codes "number"));
    }

module _ (gives : Giving) (children : FollowsChildren gives) where
  pub copies : Follows gives (with_program id_role) id_rule
  copies = children (with_program id_role) id_rule refl

  module _ (conf : Conf) (some : 1 ≤ conf.nodes) (few : conf.nodes ≤ 2 ^ 30) (command : Command) (is : conf.command ≡ command)
      (algorithm : Algorithm) (algorithm_is : algorithm_of (algorithm_word conf command) ≡ Some algorithm) where
    follows_role : (role : NodeRole) (word : List ℕ) → IsWordOf role word → Follows gives (with_program (over_nodes conf word)) (rule_over_nodes role algorithm conf.nodes)
    follows_role role word role_is =
        children (with_program (over_nodes conf word)) (rule_over_nodes role algorithm conf.nodes)
        (ap (λ (c : Command). rule_of (word ∷ algorithm_word conf c ∷ decimal conf.nodes ∷ [])) is ∙ role_rule role word role_is algorithm (algorithm_word conf command) algorithm_is conf.nodes some few)

  module _ (conf : Conf) (some : 1 ≤ conf.nodes) (few : conf.nodes ≤ 2 ^ 30) where
    pub follows_hcc : conf.command ≡ OfHcc → FollowsRoles gives hcc_algebra conf.nodes (words_for conf)
    follows_hcc is = record {
      copy = copies;
      first = follows_role conf some few OfHcc is Hcc refl First (codes "first") is_first;
      stage1 = follows_role conf some few OfHcc is Hcc refl Stage1 (codes "stage1") is_stage1;
      stage2 = follows_role conf some few OfHcc is Hcc refl Stage2 (codes "stage2") is_stage2;
      number = follows_role conf some few OfHcc is Hcc refl Number (codes "number") is_number;
    }

    pub follows_page_rank : conf.command ≡ OfPageRank → FollowsRoles gives (page_rank_algebra conf.nodes) conf.nodes (words_for conf)
    follows_page_rank is = record {
      copy = copies;
      first = follows_role conf some few OfPageRank is PageRank refl First (codes "first") is_first;
      stage1 = follows_role conf some few OfPageRank is PageRank refl Stage1 (codes "stage1") is_stage1;
      stage2 = follows_role conf some few OfPageRank is PageRank refl Stage2 (codes "stage2") is_stage2;
      number = follows_role conf some few OfPageRank is PageRank refl Number (codes "number") is_number;
    }

    pub follows_hadi : conf.command ≡ OfHadi → conf.seed < 2 ^ 64 → FollowsRoles gives (hadi_algebra conf.seed) conf.nodes (words_for conf)
    follows_hadi is small =
        let named : algorithm_of (algorithm_word conf OfHadi) ≡ Some (Hadi conf.seed) = ap (option_map Hadi) (decimals_read_back conf.seed small) in record {
          copy = copies;
          first = follows_role conf some few OfHadi is (Hadi conf.seed) named First (codes "first") is_first;
          stage1 = follows_role conf some few OfHadi is (Hadi conf.seed) named Stage1 (codes "stage1") is_stage1;
          stage2 = follows_role conf some few OfHadi is (Hadi conf.seed) named Stage2 (codes "stage2") is_stage2;
          number = follows_role conf some few OfHadi is (Hadi conf.seed) named Number (codes "number") is_number;
        }

  -- ---- the matrix

  pub follows_both : Follows gives (with_program (matrix_map OfHcc true)) (entries_rule true)
  follows_both = children (with_program (matrix_map OfHcc true)) (entries_rule true) refl

  pub follows_sides : (both : Bool) → Follows gives (with_program (matrix_map OfHadi both)) (entries_rule both)
  follows_sides true = children (with_program (matrix_map OfHadi true)) (entries_rule true) refl
  follows_sides false = children (with_program (matrix_map OfHadi false)) (entries_rule false) refl

  pub follows_degrees : Follows gives (with_program (matrix_reduce OfPageRank)) degrees_rule
  follows_degrees = children (with_program (matrix_reduce OfPageRank)) degrees_rule refl
