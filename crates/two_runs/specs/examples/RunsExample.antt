-- Two runs in words and bytes, the smallest of which demand 3 speaks: run A lowers a root node with nothing in it, run B the same with the
-- node b and its deletion in it. What both leave is written here as they may write it, and RunsMet of the proofs has that they do.
use Rattle.std.specs.Prelude.{ℕ, ◌≡◌, refl, List, [], ◌∷◌, ◌++◌, replicate}
use Rattle.levels.specs.meaning.Rules.{unsigned_level}
use Rattle.definition_log.specs.meaning.Answer.{success}
use Rattle.making.specs.meaning.State.{State, start, emit}
use Rattle.input.specs.meaning.Tree.{Trees, tree, empty, more}
use Rattle.input.specs.meaning.Input.{text_at, second_at, number_at, trees_at, chain_at, description}
use Rattle.input.specs.meaning.Rows.{accepted, verdict}
use Rattle.items.specs.meaning.Lower.{opened}
use Rattle.lowering.specs.examples.Example.{span, part}
use Rattle.lowering.specs.examples.InputExample.{words8, head, computed}
use Rattle.two_runs.specs.meaning.TwoRuns.{plain_name, quiet_directive, quiet, quiet_in, Pair, Inserted, here, within}
use Rattle.two_runs.specs.meaning.WholeRuns.{Run}
use Rattle.two_runs.specs.examples.TwoRunsExample.{node_named, deletion_of, computed_state}

-- both are told of three files
abbrev pub files : List ℕ
files = 0 ∷ 10 ∷ 40 ∷ []

-- run A: the root, whose part is a slash
abbrev pub run_a : Run
run_a =
    record {
      level = unsigned_level;
      starts = files;
      words = head ++ words8 1 0 2 0 0 0 10 60 ++ words8 10 0 0 0 0 0 10 11;
      text = [];
      out_before = replicate 48 0;
      bytes_before = replicate 1 0;
      answer = record { number = success; returned = 0 };
      -- the root; and code 23 for it, since no version directive comes before
      out =
          3 ∷ 1 ∷ 0 ∷ 0 ∷ 0 ∷ 1 ∷ 2 ∷ 0 ∷ 0 ∷ 0 ∷ 0 ∷ 0 ∷ 0 ∷ 0 ∷ 0 ∷ 0
          ∷ 1 ∷ 0 ∷ 0 ∷ 1 ∷ 0 ∷ 0 ∷ 0 ∷ 0 ∷ 0 ∷ 10 ∷ 60 ∷ 10 ∷ 11 ∷ 1 ∷ 1 ∷ 0
          ∷ 15 ∷ 0 ∷ 0 ∷ 0 ∷ 0 ∷ 0 ∷ 0 ∷ 23 ∷ 0 ∷ 10 ∷ 11 ∷ 0 ∷ 0 ∷ 1 ∷ 0 ∷ 0
          ∷ [];
      bytes = 47 ∷ [];
    }

-- run B: the root with its slash, and in it b with its name, and the deletion with its name
abbrev pub run_b : Run
run_b =
    record {
      level = unsigned_level;
      starts = files;
      words =
          head
          ++ words8 1 0 2 0 0 3 10 60
          ++ words8 10 0 0 0 0 0 10 11
          ++ words8 1 5 4 0 0 0 20 30
          ++ words8 5 0 0 0 1 0 20 21
          ++ words8 3 0 6 0 0 4 40 50
          ++ words8 5 0 0 0 1 0 45 46;
      text = 98 ∷ [];
      out_before = replicate 80 0;
      bytes_before = replicate 5 0;
      answer = record { number = success; returned = 0 };
      -- the root, b, its deletion; and code 23 as in run A
      out =
          5 ∷ 1 ∷ 0 ∷ 0 ∷ 0 ∷ 5 ∷ 4 ∷ 0 ∷ 0 ∷ 0 ∷ 0 ∷ 0 ∷ 0 ∷ 0 ∷ 0 ∷ 0
          ∷ 1 ∷ 2 ∷ 0 ∷ 1 ∷ 0 ∷ 0 ∷ 0 ∷ 0 ∷ 0 ∷ 10 ∷ 60 ∷ 10 ∷ 11 ∷ 1 ∷ 1 ∷ 0
          ∷ 1 ∷ 3 ∷ 1 ∷ 2 ∷ 0 ∷ 0 ∷ 0 ∷ 0 ∷ 0 ∷ 20 ∷ 30 ∷ 20 ∷ 21 ∷ 1 ∷ 1 ∷ 0
          ∷ 3 ∷ 0 ∷ 3 ∷ 2 ∷ 0 ∷ 0 ∷ 0 ∷ 0 ∷ 0 ∷ 40 ∷ 50 ∷ 40 ∷ 50 ∷ 2 ∷ 2 ∷ 0
          ∷ 15 ∷ 0 ∷ 0 ∷ 0 ∷ 0 ∷ 0 ∷ 0 ∷ 23 ∷ 0 ∷ 10 ∷ 11 ∷ 0 ∷ 0 ∷ 1 ∷ 0 ∷ 0
          ∷ [];
      bytes = 47 ∷ 47 ∷ 98 ∷ 47 ∷ 98 ∷ [];
    }

-- rows 1 to 6 pass both
pub accepted_a : verdict run_a.words run_a.text ≡ accepted
unfolding computed
accepted_a = refl

pub accepted_b : verdict run_b.words run_b.text ≡ accepted
unfolding computed
accepted_b = refl

-- the descriptions: a root with these items in it, of which run A has none and run B the two
abbrev pub root_with : Trees → Trees
root_with items = more (tree 1 [] 0 (span 10 60) (part 10 [] 10 11 empty empty) items) empty

abbrev pub the_two : Trees
the_two = more (node_named 98 empty empty) (more (deletion_of 98) empty)

pub read_a : description run_a.words run_a.text ≡ root_with empty
unfolding description chain_at trees_at text_at second_at number_at
read_a = refl

pub read_b : description run_b.words run_b.text ≡ root_with the_two
unfolding description chain_at trees_at text_at second_at number_at
read_b = refl

-- "/b"
abbrev pub new_path : List ℕ
new_path = 47 ∷ 98 ∷ []

-- the state in which run B comes to the two: the root is made
abbrev before : State
before = opened (47 ∷ []) (part 10 [] 10 11 empty empty) (span 10 60) (emit [] start)

pair : Pair unsigned_level new_path (47 ∷ []) before (node_named 98 empty empty) (deletion_of 98)
unfolding computed_state quiet quiet_in plain_name quiet_directive
pair =
    record {
      in_body = refl;
      subnode = refl;
      new_path = record { name = 98 ∷ []; named = refl; path = refl };
      deletion = refl;
      deletes_node = refl;
      same_path = record { name = 98 ∷ []; named = refl; path = refl };
      quiet_node = refl;
      quiet_deletion = refl;
      silent = refl;
      nothing_live = refl;
      nothing_bound = refl;
    }

pub root_inserted : Inserted unsigned_level new_path [] start (root_with empty) (root_with the_two)
unfolding computed_state
root_inserted = within {p = 47 ∷ []} refl (here pair)
