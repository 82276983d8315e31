-- The words of nodes, and of lists of units.
use Rattle.std.specs.Prelude.{ℕ, Bool, ◌&&◌, nat_lt, List, ◌++◌, length, map, codes, Option, option_map}
use Rattle.std.specs.List.{concat, join_with_byte}
use Rattle.std.specs.Fmt.{decimal}
use Rattle.tg_base.specs.Units.{is_distinct, is_within, is_chain}
use Rattle.tg_base.specs.Clusters.{Header}
use Rattle.tg_base.specs.declared.ids.Role.{Role}
use Rattle.tg_base.specs.declared.ids.Role.TheVariants as role
use Rattle.tg_base.specs.declared.ids.NodeId.{NodeId}
use Rattle.tg_any.specs.AnyWords.{or_other}
use Rattle.tg_any.specs.Words.{Word}
use Rattle.tg_script.specs.Parts.{lettered, separated, narrowed}

abbrev pub letter_of : Role → List ℕ
letter_of role.Unit = codes "u"
letter_of role.Layout = codes "l"
letter_of role.Seqr = codes "s"
letter_of role.Client = codes "c"

-- how many nodes of a role the header declares
abbrev pub count_of : Header → Role → ℕ
count_of h role.Unit = h.units
count_of h role.Layout = h.layouts
count_of h role.Seqr = h.seqs
count_of h role.Client = h.clients

-- a node of a role by its number, as `u3`
abbrev pub member_word : Role → ℕ → List ℕ
member_word r n = letter_of r ++ decimal n

-- the number of a declared node of a role
abbrev pub numbered : Header → Role → Word ℕ
numbered h r = lettered (letter_of r) (count_of h r)

-- the node of a role
abbrev pub node_at : Role → ℕ → NodeId
node_at r n = record { role = r; num = n }

-- a declared node, as `u3`
abbrev pub node_word : NodeId → List ℕ
node_word n = member_word n.role n.num

abbrev pub is_declared : Header → NodeId → Bool
is_declared h n = nat_lt n.num (count_of h n.role)

abbrev pub node_of : Header → Role → List ℕ → Option NodeId
node_of h r word = option_map (node_at r) ((numbered h r).read word)

abbrev pub node_in : Header → List ℕ → Option NodeId
node_in h word = or_other (node_of h role.Unit word) (or_other (node_of h role.Layout word) (or_other (node_of h role.Seqr word) (node_of h role.Client word)))

abbrev pub node : Header → Word NodeId
node h = record { spell = node_word; fits = is_declared h; read = node_in h }

-- units, as `u0,u3`
abbrev pub units_word : List ℕ → List ℕ
units_word us = join_with_byte 44 (map (member_word role.Unit) us)

-- chains, as `u0,u1/u2`
abbrev pub chains_word : List (List ℕ) → List ℕ
chains_word cs = join_with_byte 47 (map units_word cs)

-- one or more of the first units
abbrev pub units : ℕ → Word (List ℕ)
units count = separated 44 (lettered (codes "u") count)

-- such units, each once
abbrev pub distinct_units : ℕ → Word (List ℕ)
distinct_units count = narrowed is_distinct (units count)

-- one to five such units, each once
abbrev pub chain : ℕ → Word (List ℕ)
chain count = narrowed is_chain (units count)

-- one to eight chains, and each unit stands once in all
abbrev pub few_apart : List (List ℕ) → Bool
few_apart cs = is_within 1 8 (length cs) && is_distinct (concat cs)

-- such chains
abbrev pub chains : ℕ → Word (List (List ℕ))
chains count = narrowed few_apart (separated 47 (chain count))
