-- The words of a folder's jobs name the roles that the block form needs.
use Rattle.std.proofs.Common.{◌≡◌, refl, ap, ◌∙◌, ℕ, ◌<◌, ◌≤◌, ◌^◌, List, [], ◌∷◌, codes, decimal, leb, Some, option_map, option_and_then, arith}
use Rattle.std.proofs.lemmas.Bool.{cond-true, le-leb, and_from}
use Rattle.peg_text.proofs.DecimalLemmas.{decimals_read_back}
use Rattle.words.specs.Words.{within}
use Rattle.gimv_block.specs.BlockRules.{blocks_rule, cut_rule, group_rule}
use Rattle.gimv_diag.specs.DiagonalRules.{diag1_rule}
use Rattle.hcc.specs.Components.{hcc_algebra, label_as_message}
use Rattle.pagerank.specs.Ranks.{page_rank_algebra}
use Rattle.hadi.specs.Hadi.{hadi_algebra}
use Rattle.child.specs.declared.kinds.Algorithm.{Algorithm}
use Rattle.child.specs.declared.kinds.Algorithm.TheVariants.{Hcc, PageRank, Hadi}
use Rattle.child.specs.declared.kinds.BlockRole.{BlockRole}
use Rattle.child.specs.declared.kinds.BlockRole.TheVariants.{FirstB, Block1, Block2, Unblock}
use Rattle.child.specs.declared.kinds.Kind.TheVariants as Asked
use Rattle.child.specs.declared.roles.RoleName.{RoleName}
use Rattle.child.specs.declared.roles.RoleName.TheVariants as Role
use Rattle.child.specs.Roles.{role_named}
use Rattle.child.specs.Words.{algorithm_of, asked_of, block_length_of, blocked, node_count_of, rule_of, rule_of_kind, rule_over_blocks, over_blocks as words_over_blocks}
use Rattle.conf.specs.declared.commands.Command.{Command}
use Rattle.conf.specs.declared.commands.Command.TheVariants.{Hcc as OfHcc, PageRank as OfPageRank, Hadi as OfHadi}
use Rattle.conf.specs.declared.reading.Conf.{Conf}
use Rattle.mining.specs.Table.{algorithm_word, over_blocks, id_role}
use Rattle.flow_core.specs.Following.{Giving, Follows}
use Rattle.flow_block.specs.BlockRoles.{BlockWords, FollowsBlockRoles}
use Rattle.flow.specs.Children.{FollowsChildren}
use Rattle.flow.proofs.WordsBack.{with_program, copies}

node_count_back : (n : ℕ) → 1 ≤ n → n ≤ 2 ^ 30 → node_count_of (decimal n) ≡ Some n
node_count_back n some few =
    ap (option_and_then (within 1 (2 ^ 30))) (decimals_read_back n (omega arith)) ∙ cond-true _ _ _ (and_from (leb 1 n) (leb n (2 ^ 30)) (le-leb 1 n some) (le-leb n (2 ^ 30) few))

length_back : (len : ℕ) → 1 ≤ len → len ≤ 256 → block_length_of (decimal len) ≡ Some len
length_back len some few =
    ap (option_and_then (within 1 256)) (decimals_read_back len (omega arith)) ∙ cond-true _ _ _ (and_from (leb 1 len) (leb len 256) (le-leb 1 len some) (le-leb len 256 few))

-- the word of a role over blocks: the role has a name, and asks for an algorithm, a number of nodes and the length of a block
record IsWordOf (role : BlockRole) (word : List ℕ) : Type 0 where
  name : RoleName
  named : role_named word ≡ Some name
  asks : (words : List (List ℕ)) → asked_of words name ≡ words_over_blocks role words

is_firstb : IsWordOf FirstB (codes "firstb")
is_firstb = record { name = Role.FirstB; named = refl; asks = λ words. refl }

is_block1 : IsWordOf Block1 (codes "block1")
is_block1 = record { name = Role.Block1; named = refl; asks = λ words. refl }

is_block2 : IsWordOf Block2 (codes "block2")
is_block2 = record { name = Role.Block2; named = refl; asks = λ words. refl }

is_unblock : IsWordOf Unblock (codes "unblock")
is_unblock = record { name = Role.Unblock; named = refl; asks = λ words. refl }

module _ (n len : ℕ) (some_nodes : 1 ≤ n) (few_nodes : n ≤ 2 ^ 30) (some : 1 ≤ len) (few : len ≤ 256) where
  -- with an algorithm's word, a number of nodes and the length of a block
  role_rule : (role : BlockRole) (word : List ℕ) → IsWordOf role word → (algorithm : Algorithm) (text : List ℕ) → algorithm_of text ≡ Some algorithm
      → rule_of (word ∷ text ∷ decimal n ∷ decimal len ∷ []) ≡ Some (rule_over_blocks role algorithm n len)
  role_rule role word is algorithm text algorithm_is =
      let words : List (List ℕ) = word ∷ text ∷ decimal n ∷ decimal len ∷ [] in
      ap (option_map rule_of_kind)
      (ap (option_and_then (asked_of words)) is.named
      ∙ is.asks words
      ∙ ap (option_and_then (λ a. blocked role a words)) algorithm_is
      ∙ ap (option_and_then (λ m. option_map (λ b. Asked.InBlocks role algorithm m b) (block_length_of (decimal len)))) (node_count_back n some_nodes few_nodes)
      ∙ ap (option_map (λ b. Asked.InBlocks role algorithm n b)) (length_back len some few))

-- the words of the block form's roles
abbrev pub block_words : Conf → BlockWords
block_words conf =
    record {
      copy = with_program id_role;
      group = with_program (codes "group" ∷ decimal conf.block ∷ []);
      firstb = with_program (over_blocks conf (codes "firstb"));
      cut = with_program (codes "cut" ∷ decimal conf.block ∷ []);
      blocks = with_program (codes "blocks" ∷ []);
      block1 = with_program (over_blocks conf (codes "block1"));
      block2 = with_program (over_blocks conf (codes "block2"));
      unblock = with_program (over_blocks conf (codes "unblock"));
    }

module _ (gives : Giving) (children : FollowsChildren gives) (conf : Conf) (some_nodes : 1 ≤ conf.nodes) (few_nodes : conf.nodes ≤ 2 ^ 30) (some : 1 ≤ conf.block) (few : conf.block ≤ 256) where
  follows_group : Follows gives (block_words conf).group (group_rule conf.block)
  follows_group = children (block_words conf).group (group_rule conf.block) (ap (λ found. option_map rule_of_kind (option_map Asked.Group found)) (length_back conf.block some few))

  pub follows_cut : Follows gives (block_words conf).cut (cut_rule conf.block)
  follows_cut = children (block_words conf).cut (cut_rule conf.block) (ap (λ found. option_map rule_of_kind (option_map Asked.Cut found)) (length_back conf.block some few))

  pub follows_blocks : Follows gives (block_words conf).blocks blocks_rule
  follows_blocks = children (block_words conf).blocks blocks_rule refl

  module _ (command : Command) (is : conf.command ≡ command) (algorithm : Algorithm) (algorithm_is : algorithm_of (algorithm_word conf command) ≡ Some algorithm) where
    follows_role : (role : BlockRole) (word : List ℕ) → IsWordOf role word → Follows gives (with_program (over_blocks conf word)) (rule_over_blocks role algorithm conf.nodes conf.block)
    follows_role role word role_is =
        children (with_program (over_blocks conf word)) (rule_over_blocks role algorithm conf.nodes conf.block)
        (ap (λ (c : Command). rule_of (word ∷ algorithm_word conf c ∷ decimal conf.nodes ∷ decimal conf.block ∷ [])) is
        ∙ role_rule conf.nodes conf.block some_nodes few_nodes some few role word role_is algorithm (algorithm_word conf command) algorithm_is)

  -- the role that closes labels
  pub follows_diag1 : Follows gives (with_program (codes "diag1" ∷ decimal conf.nodes ∷ decimal conf.block ∷ [])) (diag1_rule hcc_algebra label_as_message conf.block conf.nodes)
  follows_diag1 =
      children (with_program (codes "diag1" ∷ decimal conf.nodes ∷ decimal conf.block ∷ [])) (diag1_rule hcc_algebra label_as_message conf.block conf.nodes)
      (ap (λ found. option_map rule_of_kind (option_and_then (λ n. option_map (λ b. Asked.Diagonal n b) (block_length_of (decimal conf.block))) found)) (node_count_back conf.nodes some_nodes few_nodes)
      ∙ ap (λ found. option_map rule_of_kind (option_map (λ b. Asked.Diagonal conf.nodes b) found)) (length_back conf.block some few))

  pub follows_hcc : conf.command ≡ OfHcc → FollowsBlockRoles gives hcc_algebra conf.block conf.nodes (block_words conf)
  follows_hcc is = record {
    copy = copies gives children;
    group = follows_group;
    firstb = follows_role OfHcc is Hcc refl FirstB (codes "firstb") is_firstb;
    cut = follows_cut;
    blocks = follows_blocks;
    block1 = follows_role OfHcc is Hcc refl Block1 (codes "block1") is_block1;
    block2 = follows_role OfHcc is Hcc refl Block2 (codes "block2") is_block2;
    unblock = follows_role OfHcc is Hcc refl Unblock (codes "unblock") is_unblock;
  }

  pub follows_page_rank : conf.command ≡ OfPageRank → FollowsBlockRoles gives (page_rank_algebra conf.nodes) conf.block conf.nodes (block_words conf)
  follows_page_rank is = record {
    copy = copies gives children;
    group = follows_group;
    firstb = follows_role OfPageRank is PageRank refl FirstB (codes "firstb") is_firstb;
    cut = follows_cut;
    blocks = follows_blocks;
    block1 = follows_role OfPageRank is PageRank refl Block1 (codes "block1") is_block1;
    block2 = follows_role OfPageRank is PageRank refl Block2 (codes "block2") is_block2;
    unblock = follows_role OfPageRank is PageRank refl Unblock (codes "unblock") is_unblock;
  }

  pub follows_hadi : conf.command ≡ OfHadi → conf.seed < 2 ^ 64 → FollowsBlockRoles gives (hadi_algebra conf.seed) conf.block conf.nodes (block_words conf)
  follows_hadi is small =
      let named : algorithm_of (algorithm_word conf OfHadi) ≡ Some (Hadi conf.seed) = ap (option_map Hadi) (decimals_read_back conf.seed small) in record {
        copy = copies gives children;
        group = follows_group;
        firstb = follows_role OfHadi is (Hadi conf.seed) named FirstB (codes "firstb") is_firstb;
        cut = follows_cut;
        blocks = follows_blocks;
        block1 = follows_role OfHadi is (Hadi conf.seed) named Block1 (codes "block1") is_block1;
        block2 = follows_role OfHadi is (Hadi conf.seed) named Block2 (codes "block2") is_block2;
        unblock = follows_role OfHadi is (Hadi conf.seed) named Unblock (codes "unblock") is_unblock;
      }
