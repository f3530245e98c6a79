-- Rows of signals in flight: blocks of four cells (the ether's queue of one ordered pair; document 01, "The node").
--   no_signal      what a cell holds in a fresh node, and the last cell of a row behind an arrival
--   signals b     the signals of a row, in order of sending
--   oldest b      the signal that was sent first
--   cell_of x      a cell that holds signal x
use Rattle.std.specs.Prelude.{List, map, get_or}
use Rattle.node.specs.declared.Cell.{Cell}
use Rattle.node.specs.declared.Signal.{Signal}
use Rattle.node.specs.declared.Signal.TheVariants.{Msg}
use Rattle.node.specs.Blocks.{Block, held}
use Rattle.node.specs.Values.{int_zero}

abbrev pub no_signal : Cell
no_signal = record { signal = Msg int_zero }

abbrev pub cell_of : Signal → Cell
cell_of x = record { signal = x }

unfoldable pub signals : Block Cell → List Signal
signals b = map (λ (c : Cell). c.signal) (held no_signal b)

unfoldable pub oldest : Block Cell → Signal
oldest b = (get_or b.cells 0 no_signal).signal
