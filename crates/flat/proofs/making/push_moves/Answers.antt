use Rattle.std.proofs.Common.{◌≡◌, ◌++◌, length, vec_items, arith}
use Rattle.board.specs.Table.{row_at}
use Rattle.flat.proofs.Copies.{Held, held_row, held_among, unwrapped, turn_there, label_there, rests_there, degree_is, moves_next, moves_all}
use Rattle.flat.proofs.making.push_moves.Given.{Over}
use Rattle.flat.proofs.making.push_moves.Goals as goal

pub loop-k-preserved : goal.loop-k-preserved
loop-k-preserved g c =
    moves_next (g.B.Board.meaning c.args.board.now) c.args.p c.requires.there c.loop-k.k (vec_items c.args.steps.now) (vec_items c.loop-k.steps) (vec_items c.push.new.self) c.step.result c.unwrap.result
    (omega (arith, degree_is (g.B.Board.meaning c.args.board.now) c.args.p c.requires.there c.degree.result c.unwrap-degree.result c.unwrap-degree.ensures c.degree.ensures))
    c.loop-k.invariant c.unwrap.ensures c.step.ensures c.in_ok-push.ensures.items

held : (g : Over) (c : goal.After-unwrap-4 g) → Held (row_at (g.B.Board.meaning c.args.board.now) c.args.p) (length (vec_items c.args.steps.now)) (record { turn = c.unwrap-2.result; label = c.unwrap-3.result; rests = c.unwrap-4.result; first = c.len-first.result; degree = c.unwrap-degree.result })
held g c = record {
  turn_same = unwrapped _ _ _ _ c.unwrap-2.ensures c.turn.ensures (turn_there (g.B.Board.meaning c.args.board.now) c.args.p c.requires.there);
  label_same = unwrapped _ _ _ _ c.unwrap-3.ensures c.label.ensures (label_there (g.B.Board.meaning c.args.board.now) c.args.p c.requires.there);
  rests_same = unwrapped _ _ _ _ c.unwrap-4.ensures c.rests.ensures (rests_there (g.B.Board.meaning c.args.board.now) c.args.p c.requires.there);
  first_same = omega arith;
  degree_same = degree_is (g.B.Board.meaning c.args.board.now) c.args.p c.requires.there c.degree.result c.unwrap-degree.result c.unwrap-degree.ensures c.degree.ensures;
}

all : (g : Over) (c : goal.After-unwrap-4 g) → vec_items c.loop-k.steps ≡ vec_items c.args.steps.now ++ (row_at (g.B.Board.meaning c.args.board.now) c.args.p).moves
all g c =
    moves_all (g.B.Board.meaning c.args.board.now) c.args.p c.loop-k.k (vec_items c.args.steps.now) (vec_items c.loop-k.steps)
    (omega (arith, degree_is (g.B.Board.meaning c.args.board.now) c.args.p c.requires.there c.degree.result c.unwrap-degree.result c.unwrap-degree.ensures c.degree.ensures)) c.loop-k.invariant

pub returns : goal.returns
returns g c = record {
  moves = all g c;
  row = held_row (vec_items c.args.steps.now) (vec_items c.loop-k.steps) (row_at (g.B.Board.meaning c.args.board.now) c.args.p) _ (all g c) (held g c);
  among = held_among (vec_items c.args.steps.now) (vec_items c.loop-k.steps) (row_at (g.B.Board.meaning c.args.board.now) c.args.p) _ (all g c) (held g c);
}
