-- What follows of the rule for a pass.
use Rattle.std.proofs.Common.{refl, arith}
use Rattle.std.specs.Prelude.{◌==◌}
use Rattle.std.proofs.lemmas.Bool.{eq-eqb, eqb-true}
use Rattle.list_laws.proofs.Filters.{Contains-filter, filter-contains}
use Rattle.book_rows.specs.declared.rows.ActRow.{ActRow}
use Rattle.book_rows.specs.declared.rows.Batch.{Batch}
use Rattle.desk_history.specs.Moves.{longer}
use Rattle.desk_history.specs.Laws.{EntriesAreOfTheNumber, HeldBooksGrow, OneBeginsTheOther, OthersStay, PassesGoOn, NotesAreLearned, NewNumbersHaveNoEntries}
use Rattle.desk_history.proofs.Fronts.{prefix_length, fronts_are_along, IsLonger, longer_is}
use Rattle.desk_history.proofs.Entries.{of_row, of_rows, those_append, those_none, entries_between}
use Rattle.desk_history.proofs.Steps.{home_stays, booked_grows, looked_grows, unkept_grows}
use Rattle.desk_history.proofs.Notes.{home_learned}

pub entries_are_of_the_number : EntriesAreOfTheNumber
entries_are_of_the_number = record {
  same = λ number list row. record {
    stands = λ held is. Contains-filter (λ (r : ActRow). r.session == number) list row held (eq-eqb row.session number is);
    among = λ held. (filter-contains (λ (r : ActRow). r.session == number) list row held).0;
    own = λ held. eqb-true row.session number (filter-contains (λ (r : ActRow). r.session == number) list row held).1;
  };
  order = those_append of_row;
  tries = λ number tried rows. record {
    stands = λ held is. Contains-filter (λ (r : Batch). r.act.session == number) tried rows held (eq-eqb rows.act.session number is);
    among = λ held. (filter-contains (λ (r : Batch). r.act.session == number) tried rows held).0;
    own = λ held. eqb-true rows.act.session number (filter-contains (λ (r : Batch). r.act.session == number) tried rows held).1;
  };
  order_of_tries = those_append of_rows;
}

pub held_books_grow : HeldBooksGrow
held_books_grow = record { appended = booked_grows; seen = looked_grows; tried = unkept_grows }

pub one_begins_the_other : OneBeginsTheOther
one_begins_the_other book first other known also = fronts_are_along first.list other.list book.list known.front also.front

pub others_stay : OthersStay
others_stay = home_stays

pub passes_go_on : PassesGoOn
passes_go_on held is = record {
  number = refl;
  start = refl;
  front = is.front;
  point = omega (arith, prefix_length held.pass.list held.book.list is.front);
  own = is.own;
  tried = refl;
  found = is.left;
  left = is.found;
}

pub notes_are_learned : NotesAreLearned
notes_are_learned book pass note home is =
    let both : IsLonger pass.list note.list book.list = longer_is pass.list note.list book.list home.front is.front in
    record {
      home = home_learned book pass note home is;
      front = both.first;
      told = both.other;
      point = omega (arith, prefix_length pass.list (longer pass.list note.list) both.first);
      own = entries_between pass.number pass.list (longer pass.list note.list) book.list both.first both.front home.own;
    }

pub new_numbers_have_no_entries : NewNumbersHaveNoEntries
new_numbers_have_no_entries next list below =
    those_none of_row next list (λ i d within. (let known = below i d within in λ same. absurd (omega (arith, same, known))))
