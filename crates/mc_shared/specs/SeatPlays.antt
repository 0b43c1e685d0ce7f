-- What is played on a seat, and how one is cut: these lists are whole. A step of the running cache names one of their cases by its type.
use Rattle.std.specs.Prelude.{ℕ}
use Rattle.atomic_table.specs.Table.{Step}
use Rattle.mc_theory.specs.declared.access.Access.{Access}
use Rattle.mc_theory.specs.declared.act.Act.{Act}
use Rattle.mc_shared.specs.Steps.{SeatView, StoresAct, AddsActIfSet, AddsActIfClear, ClearsBit, FetchesWord, ReadsWord, AddsMark, AddsMarkIfSet, ComparesMoment, with_reader_view, new_reader_view, writer_part, reader_part}
use Rattle.mc_shared.specs.Views.{View}

pub data SeatPlay : Type 0 where
  -- by the writer
  fetches : SeatPlay
  makes : Act → SeatPlay
  marks_if_set : Act → SeatPlay
  turns : Act → SeatPlay
  turns_if_clear : Act → SeatPlay
  -- by a reader
  reads : Access → SeatPlay
  marks : ℕ → SeatPlay
  notices : ℕ → SeatPlay
  -- by the writer, to whom a reader is joined
  compares : SeatPlay

-- what a play says: of the step, the seat before it, the word that it found, and the seat after it
abbrev pub says : SeatPlay → Step (Unit {0}) → SeatView → ℕ → SeatView → Type 0
says fetches = FetchesWord
says (makes a) = StoresAct a
says (marks_if_set a) = AddsActIfSet a
says (turns a) = ClearsBit a
says (turns_if_clear a) = AddsActIfClear a
says (reads a) = ReadsWord a
says (marks i) = AddsMark i
says (notices i) = AddsMarkIfSet i
says compares = ComparesMoment

-- a seat is cut in two: a new reader is split off the writer, or the reader that was joined to it
pub data SeatCut : Type 0 where
  seats : SeatCut
  parts : SeatCut

abbrev pub kept_part : SeatCut → View → View
kept_part seats = with_reader_view
kept_part parts = writer_part

abbrev pub new_part : SeatCut → View → View
new_part seats = new_reader_view
new_part parts = reader_part
