mod Common
mod Assembled
mod Built
mod ClockLemmas
mod Counted
mod LogCounts
