pub mod WordPrintReading
pub mod SetPrintReading
pub mod RangePrintReading
