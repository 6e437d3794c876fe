use Rattle.std.proofs.Common.{◌∙◌, ap, arith, inl, inr, length, ◌++◌, ◌∷◌, []}
use Rattle.std.proofs.lemmas.List.{length_push}
use Rattle.atomic_table.specs.Table.{Me}
use Rattle.book_rows.specs.{declared.rows.Batch.Batch, Book.Book}
use Rattle.clerk_desk.specs.Serving.{reply_of}
use Rattle.desk_history.specs.declared.views.View.{View}
use Rattle.desk_history.specs.Seen.{holding_of}
use Rattle.shared_desk.proofs.Unbooked.{rests_tried, rests_untried}
use Rattle.shared_desk.proofs.Settled.{seen, settled_more, settled_unkept, settled_unsent}
use Rattle.shared_desk.proofs.deciding.decide.Goals as goal

pub last_act-row-requires : goal.last_act-row-requires
last_act-row-requires g c =
    let came = c.in-Booked.ensures.came in
    let long = ap (λ (book : Book). length book.acts) came.2 ∙ length_push c.args.office.now.book.acts came.0.act in
    omega (arith, long)

pub append-requires-clause-own : goal.append-requires-clause-own
append-requires-clause-own g c =
    let came = c.in-Booked.ensures.came in
    let is = c.last_act-row.ensures.last c.args.office.now.book.acts came.0.act (ap (λ (book : Book). book.acts) came.2) in
    ap (λ row. row.session) is ∙ (c.acts_give_the_book.ensures.session c.args.office.now.capacity c.args.office.now.book c.args.session c.args.clock c.args.call came.0 came.1.appends_them).0 ∙ c.requires.number

pub append-requires-clause-few : goal.append-requires-clause-few
append-requires-clause-few g c =
    let came = c.in-Booked.ensures.came in
    let long = ap (λ (book : Book). length book.acts) came.2 ∙ length_push c.args.office.now.book.acts came.0.act in
    let acts = (c.histories_are_reached.ensures.reached _ _ c.requires.settled.legal).acts in
    let same = ap (λ (book : Book). length book.acts) c.requires.settled.tables in
    let few = c.last_act-row.ensures.few in
    omega (arith, long, acts, few, same)

pub write_try-requires-clause-own : goal.write_try-requires-clause-own
write_try-requires-clause-own g c =
    let rows = c.in-Unkept.step.rows in
    let is = c.acts_give_the_book.ensures.session c.args.office.now.capacity c.args.office.now.book c.args.session c.args.clock c.args.call rows c.in-Unkept.ensures.came.1.appends_them in
    ap (λ (rows : Batch). rows.act.session) c.batch.ensures ∙ is.0 ∙ c.requires.number

pub returns-in-Booked-clause-settled : goal.returns-in-Booked-clause-settled
returns-in-Booked-clause-settled g c =
    let came = c.in-Booked.ensures.came in
    settled_more g.B.Naming g.K.Keeper c.args.office.now c.book_call.new.office c.args.keeper.now c.book_call.new.keeper (holding_of c.args.book.now.me.0).book (holding_of c.append.new.book.me.0).book
    c.requires.settled c.book_call.ensures.stays c.histories_go_on.ensures.go_on came.0 _ came.1.by_office
    (c.last_act-row.ensures.last c.args.office.now.book.acts came.0.act (ap (λ (book : Book). book.acts) came.2)) came.2
    (ap (λ (me : Me (Unit {0}) View). (holding_of me.0).book) c.append.ensures.view) c.in-Booked.ensures.cause c.in-Booked.ensures.crash

pub returns-in-Unsent-clause-settled : goal.returns-in-Unsent-clause-settled
returns-in-Unsent-clause-settled g c =
    settled_unsent g.B.Naming g.K.Keeper c.args.office.now c.book_call.new.office c.args.keeper.now c.book_call.new.keeper (holding_of c.args.book.now.me.0).book (holding_of c.look.new.book.me.0).book
    c.requires.settled c.book_call.ensures.stays c.in-Unsent.ensures.came.1 c.in-Unsent.ensures.came.2 (ap (λ (me : Me (Unit {0}) View). (holding_of me.0).book) c.look.ensures.view)

pub returns-in-Unkept-clause-settled : goal.returns-in-Unkept-clause-settled
returns-in-Unkept-clause-settled g c =
    let came = c.in-Unkept.ensures.came in
    let at = (holding_of c.args.book.now.me.0).book in
    settled_unkept g.B.Naming g.K.Keeper c.args.office.now c.book_call.new.office c.args.keeper.now c.book_call.new.keeper (holding_of c.args.book.now.me.0).book (holding_of c.write_try.new.book.me.0).book
    c.requires.settled c.book_call.ensures.stays _ came.1.by_office came.2
    (ap (λ (me : Me (Unit {0}) View). (holding_of me.0).book) c.write_try.ensures.view
    ∙ ap (λ (rows : Batch). seen at at.list (at.tried ++ rows ∷ []) (g.K.Keeper.faults c.book_call.new.keeper)) c.batch.ensures) came.3

pub returns-in-Booked-clause-decides : goal.returns-in-Booked-clause-decides
returns-in-Booked-clause-decides g c =
    let came = c.in-Booked.ensures.came in
    let is = c.last_act-row.ensures.last c.args.office.now.book.acts came.0.act (ap (λ (book : Book). book.acts) came.2) in
    inl (record {
      rows = came.0;
      appends_them = came.1.appends_them;
      list = ap (λ (me : Me (Unit {0}) View). (holding_of me.0).book.list) c.append.ensures.view ∙ ap (λ row. (holding_of c.args.book.now.me.0).book.list ++ row ∷ []) is;
      since = ap (λ (me : Me (Unit {0}) View). (holding_of me.0).since) c.append.ensures.view ∙ ap (λ row. (holding_of c.args.book.now.me.0).since ++ row ∷ []) is;
      tries_since = ap (λ (me : Me (Unit {0}) View). (holding_of me.0).tries) c.append.ensures.view;
      replied = c.in-Booked.ensures.served.0 ∙ ap (reply_of c.args.office.now.book) came.1.appends_them;
    })

pub returns-in-Unsent-clause-decides : goal.returns-in-Unsent-clause-decides
returns-in-Unsent-clause-decides g c =
    inr (rests_untried _ c.args.book.now.me c.look.new.book.me _ c.in-Unsent.reply c.look.ensures.view c.in-Unsent.ensures.came.0)

pub returns-in-Unkept-clause-decides : goal.returns-in-Unkept-clause-decides
returns-in-Unkept-clause-decides g c =
    inr (rests_tried _ _ c.in-Unkept.ensures.came.1.appends_them c.args.book.now.me c.write_try.new.book.me _ _ c.in-Unkept.reply c.batch.ensures c.write_try.ensures.view c.in-Unkept.ensures.came.0)
