mod Or
mod Going
mod Commands
mod Sends
mod Passed
mod Ended
mod Rounds
mod Legal
