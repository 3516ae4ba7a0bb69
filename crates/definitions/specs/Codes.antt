-- The codes of the nodes and the numbers of the moves. Those of the events and refusals stand in Answers, where the code's enums get their numbers, the moves' too.
use Rattle.std.specs.Prelude.{ℕ}

-- "node codes 0 to 10 in this order"
abbrev pub Free : ℕ
Free = 0

abbrev pub ES : ℕ
ES = 1

abbrev pub LOE : ℕ
LOE = 2

abbrev pub Shared : ℕ
Shared = 3

abbrev pub LS : ℕ
LS = 4

abbrev pub EE : ℕ
EE = 5

abbrev pub SAF : ℕ
SAF = 6

abbrev pub LOS : ℕ
LOS = 7

abbrev pub Exclusive : ℕ
Exclusive = 8

abbrev pub LE : ℕ
LE = 9

abbrev pub OE : ℕ
OE = 10

-- "Moves: 0 go, 1 call shared, 2 call exclusive, 3 set, 4 clear, 5 relent."
abbrev pub go : ℕ
go = 0

abbrev pub call_shared : ℕ
call_shared = 1

abbrev pub call_exclusive : ℕ
call_exclusive = 2

abbrev pub set_move : ℕ
set_move = 3

abbrev pub clear_move : ℕ
clear_move = 4

abbrev pub relent : ℕ
relent = 5

-- "New move 6, hold" (02 §1)
abbrev pub hold : ℕ
hold = 6
