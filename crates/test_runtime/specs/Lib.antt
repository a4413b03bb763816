pub mod WorkedRow
