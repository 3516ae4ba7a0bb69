-- The codes of the nodes as the code's enum has them.
use Rattle.std.specs.Prelude.{ℕ}
use Rattle.definitions.specs.Codes as code
use Rattle.nodes.specs.declared.Node.{Node}
use Rattle.nodes.specs.declared.Node.TheVariants.{Free, Es, Loe, Shared, Ls, Ee, Saf, Los, Exclusive, Le, Oe}

-- "node codes 0 to 10 in this order"
abbrev pub code_of_node : Node → ℕ
code_of_node Free = code.Free
code_of_node Es = code.ES
code_of_node Loe = code.LOE
code_of_node Shared = code.Shared
code_of_node Ls = code.LS
code_of_node Ee = code.EE
code_of_node Saf = code.SAF
code_of_node Los = code.LOS
code_of_node Exclusive = code.Exclusive
code_of_node Le = code.LE
code_of_node Oe = code.OE
