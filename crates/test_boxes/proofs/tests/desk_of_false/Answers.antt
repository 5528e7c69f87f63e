use Rattle.test_boxes.proofs.Wholes.{some_is, known_both, put_first, put_second, false_both}
use Rattle.test_boxes.proofs.tests.desk_of_false.Goals as goal

pub put-requires : goal.put-requires
put-requires c =
    let one = some_is _ _ _ c.in_ok-one.ensures.ok_part c.new.ensures.value in
    let two = some_is _ _ _ c.in_ok-two.ensures.ok_part c.new-2.ensures.value in
    let known = known_both _ _ _ _ _ c.new-desk.ensures c.in_ok-watch.ensures.ok c.in_ok-watch-2.ensures.ok one two in
    put_first _ _ _ known c.negative.ensures one

pub put-requires-2 : goal.put-requires-2
put-requires-2 c =
    let one = some_is _ _ _ c.in_ok-one.ensures.ok_part c.new.ensures.value in
    let two = some_is _ _ _ c.in_ok-two.ensures.ok_part c.new-2.ensures.value in
    let known = known_both _ _ _ _ _ c.new-desk.ensures c.in_ok-watch.ensures.ok c.in_ok-watch-2.ensures.ok one two in
    put_second _ _ _ _ _ _ known c.put.ensures c.negative.ensures c.negative-2.ensures one two

pub returns : goal.returns
returns c =
    let one = some_is _ _ _ c.in_ok-one.ensures.ok_part c.new.ensures.value in
    let two = some_is _ _ _ c.in_ok-two.ensures.ok_part c.new-2.ensures.value in
    let known = known_both _ _ _ _ _ c.new-desk.ensures c.in_ok-watch.ensures.ok c.in_ok-watch-2.ensures.ok one two in
    false_both _ _ _ _ _ _ _ known c.put.ensures c.put-2.ensures c.negative.ensures c.negative-2.ensures one two
