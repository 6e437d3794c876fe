-- An office with room for them takes the acts of docs/FIRST-MONTH.md.
use Rattle.std.proofs.Common.{[], ◌∷◌, List}
use Rattle.office_step.specs.declared.call.Capacity.{Capacity}
use Rattle.office_laws.specs.{After.KnownAfter, AtHand.NewReplies}
use Rattle.manual_acts.specs.{Taken.Told, Taken.HasRoom, Year.YearIsTaken}
use Rattle.manual_acts.proofs.Goes.{past}
use Rattle.manual_acts.proofs.Steps.{AreAllowed, none_more, one_more, allowed, takes_all}
use Rattle.manual_acts.proofs.year.Known.{known_0, known_1, known_2, known_3, known_4, known_5, known_6, known_7, known_8, known_9, known_10, known_11, known_12, known_13, known_14, known_15, known_16, known_17, known_18, known_19, known_20, known_21, known_22, known_23, known_24, known_25, known_26, act_1, act_2, act_3, act_4, act_5, act_6, act_7, act_8, act_9, act_10, act_11, act_12, act_13, act_14, act_15, act_16, act_17, act_18, act_19, act_20, act_21, act_22, act_23, act_24, act_25, act_26, act_27}
use Rattle.manual_acts.proofs.year.Acts.{goes_1, goes_2, goes_3, goes_4, goes_6, goes_7, goes_8, goes_9, goes_10, goes_13, goes_15, goes_22, goes_26}
use Rattle.manual_acts.proofs.year.Closings.{goes_5, goes_11, goes_12, goes_14, goes_16, goes_17, goes_18}
use Rattle.manual_acts.proofs.year.LaterClosings.{goes_19, goes_20, goes_21, goes_23, goes_24, goes_25, goes_27}

-- the acts from each on
abbrev from_27 : List Told
from_27 = act_27 ∷ []

abbrev from_26 : List Told
from_26 = act_26 ∷ from_27

abbrev from_25 : List Told
from_25 = act_25 ∷ from_26

abbrev from_24 : List Told
from_24 = act_24 ∷ from_25

abbrev from_23 : List Told
from_23 = act_23 ∷ from_24

abbrev from_22 : List Told
from_22 = act_22 ∷ from_23

abbrev from_21 : List Told
from_21 = act_21 ∷ from_22

abbrev from_20 : List Told
from_20 = act_20 ∷ from_21

abbrev from_19 : List Told
from_19 = act_19 ∷ from_20

abbrev from_18 : List Told
from_18 = act_18 ∷ from_19

abbrev from_17 : List Told
from_17 = act_17 ∷ from_18

abbrev from_16 : List Told
from_16 = act_16 ∷ from_17

abbrev from_15 : List Told
from_15 = act_15 ∷ from_16

abbrev from_14 : List Told
from_14 = act_14 ∷ from_15

abbrev from_13 : List Told
from_13 = act_13 ∷ from_14

abbrev from_12 : List Told
from_12 = act_12 ∷ from_13

abbrev from_11 : List Told
from_11 = act_11 ∷ from_12

abbrev from_10 : List Told
from_10 = act_10 ∷ from_11

abbrev from_9 : List Told
from_9 = act_9 ∷ from_10

abbrev from_8 : List Told
from_8 = act_8 ∷ from_9

abbrev from_7 : List Told
from_7 = act_7 ∷ from_8

abbrev from_6 : List Told
from_6 = act_6 ∷ from_7

abbrev from_5 : List Told
from_5 = act_5 ∷ from_6

abbrev from_4 : List Told
from_4 = act_4 ∷ from_5

abbrev from_3 : List Told
from_3 = act_3 ∷ from_4

abbrev from_2 : List Told
from_2 = act_2 ∷ from_3

abbrev from_1 : List Told
from_1 = act_1 ∷ from_2

module _ (capacity : Capacity) (has_room : HasRoom capacity) where
  rest_27 : AreAllowed capacity known_26 (past 27 53008 27) from_27
  rest_27 = one_more (allowed capacity known_26 (past 27 53008 27) act_27 has_room goes_27) none_more

  rest_26 : AreAllowed capacity known_25 (past 27 52991 26) from_26
  rest_26 = one_more (allowed capacity known_25 (past 27 52991 26) act_26 has_room goes_26) rest_27

  rest_25 : AreAllowed capacity known_24 (past 25 52960 25) from_25
  rest_25 = one_more (allowed capacity known_24 (past 25 52960 25) act_25 has_room goes_25) rest_26

  rest_24 : AreAllowed capacity known_23 (past 23 52928 24) from_24
  rest_24 = one_more (allowed capacity known_23 (past 23 52928 24) act_24 has_room goes_24) rest_25

  rest_23 : AreAllowed capacity known_22 (past 21 52919 23) from_23
  rest_23 = one_more (allowed capacity known_22 (past 21 52919 23) act_23 has_room goes_23) rest_24

  rest_22 : AreAllowed capacity known_21 (past 21 52899 22) from_22
  rest_22 = one_more (allowed capacity known_21 (past 21 52899 22) act_22 has_room goes_22) rest_23

  rest_21 : AreAllowed capacity known_20 (past 19 52868 21) from_21
  rest_21 = one_more (allowed capacity known_20 (past 19 52868 21) act_21 has_room goes_21) rest_22

  rest_20 : AreAllowed capacity known_19 (past 17 52837 20) from_20
  rest_20 = one_more (allowed capacity known_19 (past 17 52837 20) act_20 has_room goes_20) rest_21

  rest_19 : AreAllowed capacity known_18 (past 15 52807 19) from_19
  rest_19 = one_more (allowed capacity known_18 (past 15 52807 19) act_19 has_room goes_19) rest_20

  rest_18 : AreAllowed capacity known_17 (past 13 52774 18) from_18
  rest_18 = one_more (allowed capacity known_17 (past 13 52774 18) act_18 has_room goes_18) rest_19

  rest_17 : AreAllowed capacity known_16 (past 11 52746 17) from_17
  rest_17 = one_more (allowed capacity known_16 (past 11 52746 17) act_17 has_room goes_17) rest_18

  rest_16 : AreAllowed capacity known_15 (past 7 52725 16) from_16
  rest_16 = one_more (allowed capacity known_15 (past 7 52725 16) act_16 has_room goes_16) rest_17

  rest_15 : AreAllowed capacity known_14 (past 7 52715 15) from_15
  rest_15 = one_more (allowed capacity known_14 (past 7 52715 15) act_15 has_room goes_15) rest_16

  rest_14 : AreAllowed capacity known_13 (past 4 52700 14) from_14
  rest_14 = one_more (allowed capacity known_13 (past 4 52700 14) act_14 has_room goes_14) rest_15

  rest_13 : AreAllowed capacity known_12 (past 4 52683 13) from_13
  rest_13 = one_more (allowed capacity known_12 (past 4 52683 13) act_13 has_room goes_13) rest_14

  rest_12 : AreAllowed capacity known_11 (past 2 52654 12) from_12
  rest_12 = one_more (allowed capacity known_11 (past 2 52654 12) act_12 has_room goes_12) rest_13

  rest_11 : AreAllowed capacity known_10 (past 1 52645 11) from_11
  rest_11 = one_more (allowed capacity known_10 (past 1 52645 11) act_11 has_room goes_11) rest_12

  rest_10 : AreAllowed capacity known_9 (past 1 52630 10) from_10
  rest_10 = one_more (allowed capacity known_9 (past 1 52630 10) act_10 has_room goes_10) rest_11

  rest_9 : AreAllowed capacity known_8 (past 1 52630 9) from_9
  rest_9 = one_more (allowed capacity known_8 (past 1 52630 9) act_9 has_room goes_9) rest_10

  rest_8 : AreAllowed capacity known_7 (past 1 52630 8) from_8
  rest_8 = one_more (allowed capacity known_7 (past 1 52630 8) act_8 has_room goes_8) rest_9

  rest_7 : AreAllowed capacity known_6 (past 1 52630 7) from_7
  rest_7 = one_more (allowed capacity known_6 (past 1 52630 7) act_7 has_room goes_7) rest_8

  rest_6 : AreAllowed capacity known_5 (past 1 52625 6) from_6
  rest_6 = one_more (allowed capacity known_5 (past 1 52625 6) act_6 has_room goes_6) rest_7

  rest_5 : AreAllowed capacity known_4 (past 0 52596 4) from_5
  rest_5 = one_more (allowed capacity known_4 (past 0 52596 4) act_5 has_room goes_5) rest_6

  rest_4 : AreAllowed capacity known_3 (past 0 52596 3) from_4
  rest_4 = one_more (allowed capacity known_3 (past 0 52596 3) act_4 has_room goes_4) rest_5

  rest_3 : AreAllowed capacity known_2 (past 0 52596 2) from_3
  rest_3 = one_more (allowed capacity known_2 (past 0 52596 2) act_3 has_room goes_3) rest_4

  rest_2 : AreAllowed capacity known_1 (past 0 52596 1) from_2
  rest_2 = one_more (allowed capacity known_1 (past 0 52596 1) act_2 has_room goes_2) rest_3

  rest_1 : AreAllowed capacity known_0 (past 0 0 0) from_1
  rest_1 = one_more (allowed capacity known_0 (past 0 0 0) act_1 has_room goes_1) rest_2

pub year_is_taken : KnownAfter → NewReplies → YearIsTaken
year_is_taken after replies capacity has_room = takes_all after replies capacity from_1 (rest_1 capacity has_room)
