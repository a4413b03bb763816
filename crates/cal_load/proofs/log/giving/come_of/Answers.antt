use Rattle.cal_load.proofs.Common.{◌≡◌, ◌∙◌, ◌∷◌, [], List, length, length-append, take, take_all, refl, ap, sym, arith, rows_for, LogRow, MOST_REQUESTS}
use Rattle.cal_load.proofs.LogCounts.{row_more, row_other, rows_few}
use Rattle.cal_load.proofs.log.giving.come_of.Goals as goal
use Rattle.cal_load.proofs.log.giving.come_of.Goals.{then-row-task+in_ok-give, else-row-task}

pub loop-place-preserved : goal.loop-place-preserved
loop-place-preserved c =
    let rows = c.args.rows.now in
    let task = c.args.task in
    let i = c.loop-place.place in
    let row : LogRow = c.row_at-row.result in
    let so_far = rows_for task (take i rows) in
    let is = c.loop-place.invariant in
    let before = is.came in
    elim c.if-row-task.branch [
      | then-row-task+in_ok-give w ↦
          let few = rows_few task rows i in
          let most = c.requires.few in
          let limit : MOST_REQUESTS ≡ 1000000 = refl in
          let came = w.in_ok-give.ensures.came (omega (arith, before, few, most, limit)) in
          let next = ap (λ (l : List LogRow). length l) (row_more task rows i row c.row_at-row.ensures w.if-row-task.true) in
          rw w.coming-is (record {
            is = w.in_ok-give.ensures.is;
            threads = w.in_ok-give.ensures.threads ∙ is.threads;
            turns = w.in_ok-give.ensures.turns ∙ is.turns;
            came = omega (arith, before, came, next, length-append so_far (row ∷ []));
          })
      | else-row-task w ↦ rw w.coming-is (record {
        is = is.is;
        threads = is.threads;
        turns = is.turns;
        came = before ∙ sym (ap (λ (l : List LogRow). length l) (row_other task rows i row c.row_at-row.ensures w.if-row-task.false));
      })
    ]

pub returns-clause-coming : goal.returns-clause-coming
returns-clause-coming c =
    let is = c.loop-place.invariant in
    record {
      is = is.is;
      queues = is.threads;
      ends = is.turns;
      few = let came = is.came in let few = rows_few c.args.task c.args.rows.now c.loop-place.place in let most = c.requires.few in omega (arith, came, few, most);
    }

pub returns-clause-came : goal.returns-clause-came
returns-clause-came c =
    let rows = c.args.rows.now in
    c.loop-place.invariant.came ∙ ap (λ (l : List LogRow). length (rows_for c.args.task l)) (take_all c.loop-place.place rows (omega arith))
